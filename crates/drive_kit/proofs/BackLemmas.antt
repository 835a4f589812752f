-- The text of a history is read back.
use Rattle.std.proofs.Common.{◌≡◌, ◌≤◌, ◌<◌, ◌^◌, ◌+◌, ◌++◌, ◌∙◌, ℕ, zero, suc, List, [], ◌∷◌, length, map, eqb, All, true, false, Option, Some, None, option_map, Result, Ok, refl, sym, ap, arith, append_assoc}
use Rattle.std.specs.Fmt.{decimal}
use Rattle.std.specs.Option.{ok_or}
use Rattle.std.proofs.lemmas.Bool.Decides.{nat_tests}
use Rattle.std.proofs.lemmas.Fmt.{decimal_digit, decimal_is_IsNumeral}
use Rattle.std.proofs.lemmas.List.{append-nil, length-append}
use Rattle.csv.specs.Reading.{strip_bom}
use Rattle.ho_model.specs.declared.histories.Call.{Call}
use Rattle.ho_model.specs.declared.histories.Call.TheVariants as call
use Rattle.ho_model.specs.declared.histories.Entry.{Entry}
use Rattle.ho_model.specs.declared.histories.Reply.{Reply}
use Rattle.ho_model.specs.declared.histories.Reply.TheVariants as reply
use Rattle.text_rows.specs.RoundTrip.{IsUnmarked}
use Rattle.text_rows.specs.Written.{HasWord, text_of_row, text_of_rows}
use Rattle.text_rows.proofs.RoundTripLemmas.{texts_tell}
use Rattle.drive_kit.specs.Calls.{IsCallOf, IsInRange, argument_of, call_with, called, kind_of, name_for, name_of, word_of}
use Rattle.drive_kit.specs.Causes.{and_then, read_from}
use Rattle.drive_kit.specs.Histories.{IsEntryOf, entry_of_row, history_in, row_of_entry, rows_from, text_of, with_entry}
use Rattle.drive_kit.specs.Replies.{IsWritable, flag_of, numbers_of, pair_reply, reply_fields, reply_of, triple_reply, word_reply}
use Rattle.drive_kit.specs.TextLaws.{TextsTellHistories, TextsDiffer}
use Rattle.drive_kit.specs.declared.calls.CallName.{CallName}
use Rattle.drive_kit.specs.declared.calls.Kind.{Kind}
use Rattle.drive_kit.specs.declared.causes.Cause.TheVariants.{BadArgument, UnknownCall}
use Rattle.drive_kit.proofs.NumberLemmas.{caller_back, fault_back, number_back}

-- a call
call_back : (c : Call) → IsInRange c → call_with (name_of c) (argument_of c) ≡ Some c
unfolding call_with argument_of
call_back (call.Enq value) h = ap (option_map call.Enq) (number_back value h)
call_back (call.Add value) h = ap (option_map call.Add) (number_back value h)
call_back (call.Write value) h = ap (option_map call.Write) (number_back value h)
call_back (call.BeginWrite value) h = ap (option_map call.BeginWrite) (number_back value h)
call_back (call.Poll wait) h = ap (option_map call.Poll) (number_back wait h)
call_back (call.Cancel wait) h = ap (option_map call.Cancel) (number_back wait h)
call_back (call.CompleteWith fault) h = ap (option_map call.CompleteWith) (fault_back fault h)
call_back _ h = refl

called_back : (kind : Kind) (c : Call) → IsCallOf kind c → and_then (name_for kind (word_of (name_of c))) (λ name. called name (argument_of c)) ≡ Ok c
called_back kind c h =
    ap (λ (o : Option CallName). and_then (ok_or o UnknownCall) (λ name. called name (argument_of c))) h.among
    ∙ ap (λ (o : Option Call). ok_or o BadArgument) (call_back c h.in_range)

-- the items of a snapshot
numbers_back : (ns : List ℕ) → All (λ n. n < 2 ^ 64) ns → numbers_of (map decimal ns) ≡ Some ns
numbers_back [] h = refl
numbers_back (n ∷ ns) h =
    let first = number_back n (h 0 n (omega arith)) in
    let rest = numbers_back ns (λ k d lt. h (suc k) d (omega (arith, lt))) in
    rw (first, rest) refl

-- a reply
abbrev reply_in : List (List ℕ) → Option Reply
reply_in [] = None
reply_in (said ∷ more) = reply_of said more

reply_back : (r : Reply) → IsWritable r → reply_in (reply_fields r) ≡ Some r
unfolding flag_of pair_reply reply_fields reply_of triple_reply word_reply
reply_back (reply.Dropped item) h = ap (option_map reply.Dropped) (number_back item h)
reply_back (reply.Refused fault item) h =
    let first = fault_back fault h.0 in
    let second = number_back item h.1 in
    rw (first, second) refl
reply_back (reply.Item item) h = ap (option_map reply.Item) (number_back item h)
reply_back (reply.ItemFrom item from) h =
    let first = number_back item h.0 in
    let second = caller_back from h.1 in
    rw (first, second) refl
reply_back (reply.ClosedWith fault) h = ap (option_map reply.ClosedWith) (fault_back fault h)
reply_back (reply.Count count) h = ap (option_map reply.Count) (number_back count h)
reply_back (reply.Numbers numbers) h = ap (option_map reply.Numbers) (numbers_back numbers h)
reply_back (reply.Waiting wait) h = ap (option_map reply.Waiting) (number_back wait h)
reply_back (reply.Ready true) h = refl
reply_back (reply.Ready false) h = refl
reply_back (reply.Faulted fault) h = ap (option_map reply.Faulted) (fault_back fault h)
reply_back (reply.CancelledWrite item) h = ap (option_map reply.CancelledWrite) (number_back item h)
reply_back (reply.Flag true) h = refl
reply_back (reply.Flag false) h = refl
reply_back _ h = refl

-- an entry
fields_back : (kind : Kind) (number : ℕ) (e : Entry) (fields : List (List ℕ)) → number < 2 ^ 64 → IsEntryOf kind e → reply_in fields ≡ Some e.reply
    → entry_of_row kind number (decimal number ∷ decimal e.caller ∷ word_of (name_of e.call) ∷ argument_of e.call ∷ fields) ≡ Ok e
unfolding entry_of_row
fields_back kind number e [] small is h = cc
fields_back kind number e (said ∷ more) small is h =
    let at = number_back number small in
    let same : eqb number number ≡ true = grind (arith, nat_tests) in
    let caller = caller_back e.caller is.few in
    let call = called_back kind e.call is.of_kind in
    let fit = is.replies in
    rw at (rw same (rw caller (rw call (rw h (rw fit refl)))))

entry_back : (kind : Kind) (number : ℕ) (e : Entry) → number < 2 ^ 64 → IsEntryOf kind e → entry_of_row kind number (row_of_entry number e) ≡ Ok e
entry_back kind number e small is = fields_back kind number e (reply_fields e.reply) small is (reply_back e.reply is.writable)

-- one entry more
entry_kept : (kind : Kind) (before : List Entry) (e : Entry) → length before < 20000 → IsEntryOf kind e → with_entry kind before (row_of_entry (length before) e) ≡ Ok (before ++ e ∷ [])
unfolding with_entry
entry_kept kind before e few is =
    let small : length before < 2 ^ 64 = omega arith in
    let back = entry_back kind (length before) e small is in
    let room : eqb (length before) 20000 ≡ false = grind (arith, nat_tests) in
    rw (room, back) refl

rows_back : (kind : Kind) (before es : List Entry) → All (IsEntryOf kind) es → length before + length es ≤ 20000 → read_from (with_entry kind) before (rows_from (length before) es) ≡ Ok (before ++ es)
unfolding read_from
rows_back kind before [] are few = ap Ok (sym (append-nil before))
rows_back kind before (e ∷ es) are few =
    let kept = entry_kept kind before e (omega arith) (are 0 e (omega arith)) in
    let more : length (before ++ e ∷ []) ≡ length before + 1 = length-append before (e ∷ []) in
    let later = rows_back kind (before ++ e ∷ []) es (λ k d lt. are (suc k) d (omega (arith, lt))) (omega (arith, more)) in
    rw kept (ap (λ (n : ℕ). read_from (with_entry kind) (before ++ e ∷ []) (rows_from n es)) (sym more) ∙ later ∙ ap Ok (append_assoc before (e ∷ []) es))

-- each row begins with a word
word_there : (digits : List ℕ) (rest : List (List ℕ)) → 0 < length digits → HasWord (digits ∷ rest)
word_there [] rest h = absurd (omega arith)
word_there (c ∷ digits) rest h = tt

words_there : (number : ℕ) (es : List Entry) → number + length es ≤ 20000 → All HasWord (rows_from number es)
words_there number [] few k d lt = absurd (omega (arith, lt))
words_there number (e ∷ es) few zero d lt =
    let small : number < 2 ^ 64 = omega arith in
    word_there (decimal number) _ (decimal_is_IsNumeral number small).0.0
words_there number (e ∷ es) few (suc k) d lt = words_there (number + 1) es (omega arith) k d (omega (arith, lt))

pub entry_has_word : (number : ℕ) (e : Entry) → number < 2 ^ 64 → HasWord (row_of_entry number e)
entry_has_word number e small = word_there (decimal number) _ (decimal_is_IsNumeral number small).0.0

-- a text that begins with a digit bears no mark
no_mark : (text : List ℕ) → strip_bom (48 ∷ text) ≡ 48 ∷ text
unfolding strip_bom
no_mark [] = refl
no_mark (a ∷ []) = refl
no_mark (a ∷ b ∷ text) = refl

unmarked : (es : List Entry) → IsUnmarked (text_of_rows (rows_from 0 es))
unfolding strip_bom text_of_row
unmarked [] = refl
unmarked (e ∷ es) =
    let zero_is : decimal 0 ≡ 48 ∷ [] = decimal_digit 0 (omega arith) in
    rw zero_is (no_mark _)

pub texts_are_read : TextsTellHistories
unfolding text_of
texts_are_read object history are few =
    let rows = texts_tell (rows_from 0 history) (words_there 0 history (omega (arith, few))) (unmarked history) in
    let short : 0 + length history ≤ 20000 = omega (arith, few) in
    rw rows (rows_back (kind_of object) [] history are short)

pub texts_differ : TextsDiffer
texts_differ object a b are_a are_b few_a few_b same =
    let back_a = texts_are_read object a are_a few_a in
    let back_b = texts_are_read object b are_b few_b in
    let both : ◌≡◌ {A = Result (List Entry) _} (Ok a) (Ok b) = sym back_a ∙ ap (history_in object) same ∙ back_b in
    cc
