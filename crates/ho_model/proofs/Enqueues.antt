-- Laws of the items that entries put into a queue, and of their callers.
use Rattle.std.proofs.Common.{◌≡◌, ℕ, List, [], ◌∷◌, ◌++◌, length, map, slice_get, Some, refl, ap, ◌∙◌, subst, arith, length-append, append-nil}
use Rattle.std.proofs.lemmas.List.{length-map}
use Rattle.std.proofs.lemmas.List.Concat.{flat_map-append}
use Rattle.ho_base.specs.Marks.{Mark}
use Rattle.ho_model.specs.Entries.{EntryMark, entry, Enq, Done}
use Rattle.ho_model.specs.Enqueues.{enqueued_in, values_of, putters_of}
use Rattle.ho_model.proofs.Lists.{slice_get_longer, slice_get_behind}

pub values_of-append : (xs ys : List EntryMark) → values_of (xs ++ ys) ≡ values_of xs ++ values_of ys
values_of-append xs ys = flat_map-append (λ (e : EntryMark). enqueued_in e.call e.reply) xs ys

pub putters_of-append : (xs ys : List EntryMark) → putters_of (xs ++ ys) ≡ putters_of xs ++ putters_of ys
putters_of-append xs ys = flat_map-append (λ (e : EntryMark). map (λ (item : Mark). e.caller) (enqueued_in e.call e.reply)) xs ys

-- one entry more
pub values_push : (xs : List EntryMark) (e : EntryMark) → values_of (xs ++ e ∷ []) ≡ values_of xs ++ enqueued_in e.call e.reply
values_push xs e = values_of-append xs (e ∷ []) ∙ ap (λ (l : List Mark). values_of xs ++ l) (append-nil (enqueued_in e.call e.reply))

pub putters_push : (xs : List EntryMark) (e : EntryMark) → putters_of (xs ++ e ∷ []) ≡ putters_of xs ++ map (λ (item : Mark). e.caller) (enqueued_in e.call e.reply)
putters_push xs e = putters_of-append xs (e ∷ []) ∙ ap (λ (l : List ℕ). putters_of xs ++ l) (append-nil (map (λ (item : Mark). e.caller) (enqueued_in e.call e.reply)))

-- the item at a position, and its caller, are the same in every longer history
pub value_stays : (xs ys : List EntryMark) (p : ℕ) (x : Mark) → slice_get (values_of xs) p ≡ Some x → slice_get (values_of (xs ++ ys)) p ≡ Some x
value_stays xs ys p x h = ap (λ (l : List Mark). slice_get l p) (values_of-append xs ys) ∙ slice_get_longer (values_of xs) (values_of ys) p x h

pub putter_stays : (xs ys : List EntryMark) (p c : ℕ) → slice_get (putters_of xs) p ≡ Some c → slice_get (putters_of (xs ++ ys)) p ≡ Some c
putter_stays xs ys p c h = ap (λ (l : List ℕ). slice_get l p) (putters_of-append xs ys) ∙ slice_get_longer (putters_of xs) (putters_of ys) p c h

-- an enqueue that was done puts its item, by its caller, behind those before it
pub value_put : (xs : List EntryMark) (c p : ℕ) (x : Mark) → length (values_of xs) ≡ p → slice_get (values_of (xs ++ entry c (Enq x) Done ∷ [])) p ≡ Some x
value_put xs c p x is = ap (λ (l : List Mark). slice_get l p) (values_push xs (entry c (Enq x) Done)) ∙ subst (λ (k : ℕ). slice_get (values_of xs ++ x ∷ []) k ≡ Some x) is (slice_get_behind (values_of xs) x [])

pub putter_put : (xs : List EntryMark) (c p : ℕ) (x : Mark) → length (putters_of xs) ≡ p → slice_get (putters_of (xs ++ entry c (Enq x) Done ∷ [])) p ≡ Some c
putter_put xs c p x is = ap (λ (l : List ℕ). slice_get l p) (putters_push xs (entry c (Enq x) Done)) ∙ subst (λ (k : ℕ). slice_get (putters_of xs ++ c ∷ []) k ≡ Some c) is (slice_get_behind (putters_of xs) c [])

-- each item has a caller
pub putters_count : (xs : List EntryMark) → length (putters_of xs) ≡ length (values_of xs)
putters_count [] = refl
putters_count (e ∷ es) =
    let items = enqueued_in e.call e.reply in let callers = map (λ (item : Mark). e.caller) items in
    let same : length callers ≡ length items = length-map items (λ (item : Mark). e.caller) in let rest = putters_count es in
    omega (arith, length-append callers (putters_of es), length-append items (values_of es))
