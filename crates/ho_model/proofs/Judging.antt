-- An entry is accepted exactly where its reply is the object's answer.
use Rattle.std.proofs.Common.{◌≡◌, refl, sym, ap, ◌∙◌, ⊎_elim}
use Rattle.std.specs.Prelude.{ℕ, [], List, Option, Some, None, Bool, true, false, ◌||◌, if◌then◌else◌}
use Rattle.std.specs.Option.{option_map}
use Rattle.std.proofs.lemmas.Bool.{or_cases}
use Rattle.ho_base.specs.Marks.{Mark, number_priority}
use Rattle.ho_model.specs.declared.objects.Object.TheVariants as object
use Rattle.ho_model.specs.declared.objects.Mode.{Mode}
use Rattle.ho_model.specs.declared.objects.Store.{Store}
use Rattle.ho_model.specs.declared.histories.Call.TheVariants as call
use Rattle.ho_model.specs.declared.histories.Reply.{Reply}
use Rattle.ho_model.specs.declared.histories.Reply.TheVariants as reply
use Rattle.ho_model.specs.declared.histories.Entry.{Entry}
use Rattle.ho_model.specs.Entries.{ReplyMark, Dropped, Item, same_reply}
use Rattle.ho_model.specs.Answers.{accepted}
use Rattle.ho_model.specs.Queue.{queue_answer}
use Rattle.ho_model.specs.Bag.{Lists, bag_step}
use Rattle.ho_model.specs.Channel.{Channel, channel_answer}
use Rattle.ho_model.specs.Blocking.{Blocking, blocking_answer}
use Rattle.ho_model.specs.Objects.{QueueState, BagState, ChannelState, BlockingState, unbounded, bounded, prioritized, stepped}
use Rattle.ho_model.specs.Written.{giving, showing, is_peek, call_of, entry_of}
use Rattle.ho_model.specs.Judging.{Accepts, is_unwritten, meant, IsAnswer, agrees}
use Rattle.ho_model.proofs.Replies.{same_reply_is, same_reply_refl}
use Rattle.ho_model.proofs.Written.{replies_are_told}

-- tests that follow from each other are one test
both_ways : (p q : Bool) → (p ≡ true → q ≡ true) → (q ≡ true → p ≡ true) → p ≡ q
both_ways true true f g = refl
both_ways true false f g = sym (f refl)
both_ways false true f g = g refl
both_ways false false f g = refl

-- replies that are given alike are equal, and so are those that show alike
given_alike : (a b : Reply) → giving a ≡ giving b → a ≡ b
given_alike a b h = replies_are_told object.Bag call.Take a b h

meant_alike : (shows : Bool) (a b : Reply) → meant shows a ≡ meant shows b → a ≡ b
meant_alike true a b h = replies_are_told object.Unbounded call.Peek a b h
meant_alike false a b h = given_alike a b h

same_where_equal : (f : Reply → ReplyMark) (a b : Reply) → a ≡ b → same_reply (f a) (f b) ≡ true
same_where_equal f a b h = ap (λ x. same_reply (f a) (f x)) (sym h) ∙ same_reply_refl (f a)

-- it is one whether replies are compared as they show an item or as they give it
same_meant : (shows : Bool) (a b : Reply) → same_reply (meant shows a) (meant shows b) ≡ same_reply (giving a) (giving b)
same_meant shows a b =
    both_ways (same_reply (meant shows a) (meant shows b)) (same_reply (giving a) (giving b))
    (λ h. same_where_equal giving a b (meant_alike shows a b (same_reply_is (meant shows a) (meant shows b) h)))
    (λ h. same_where_equal (meant shows) a b (given_alike a b (same_reply_is (giving a) (giving b) h)))

-- no written reply has an item without a number
no_drop_given : (a : Reply) → same_reply (Dropped []) (giving a) ≡ false
no_drop_given reply.Done = refl
no_drop_given (reply.Dropped number) = refl
no_drop_given _ = refl

no_drop_shown : (a : Reply) → same_reply (Dropped []) (showing a) ≡ false
no_drop_shown reply.Done = refl
no_drop_shown (reply.Dropped number) = refl
no_drop_shown _ = refl

no_item_given : (a : Reply) → same_reply (Item []) (giving a) ≡ false
no_item_given reply.Done = refl
no_item_given (reply.Item number) = refl
no_item_given _ = refl

no_item_shown : (a : Reply) → same_reply (Item []) (showing a) ≡ false
no_item_shown reply.Done = refl
no_item_shown (reply.Item number) = refl
no_item_shown _ = refl

no_drop : (shows : Bool) (a : Reply) → same_reply (Dropped []) (meant shows a) ≡ false
no_drop true a = no_drop_shown a
no_drop false a = no_drop_given a

no_item : (shows : Bool) (a : Reply) → same_reply (Item []) (meant shows a) ≡ false
no_item true a = no_item_shown a
no_item false a = no_item_given a

never_written : (shows : Bool) (bare : ReplyMark) (a : Reply) → (same_reply bare (Dropped []) || same_reply bare (Item [])) ≡ true → same_reply bare (meant shows a) ≡ false
never_written shows bare a h =
    ⊎_elim
    (λ e. ap (λ r. same_reply r (meant shows a)) (same_reply_is bare (Dropped []) e) ∙ no_drop shows a)
    (λ e. ap (λ r. same_reply r (meant shows a)) (same_reply_is bare (Item []) e) ∙ no_item shows a)
    (or_cases (same_reply bare (Dropped [])) (same_reply bare (Item [])) h)

refused : {S : Type 0} (new : S) (t : Bool) → t ≡ false → (if t then Some new else None) ≡ None
refused new true h = cc
refused new false h = refl

no_answer : {S : Type 0} (shows : Bool) (answer : Option (ReplyMark × S)) (written : Reply) → is_unwritten answer ≡ true → accepted answer (meant shows written) ≡ None
no_answer shows None written h = refl
no_answer shows (Some answer) written h = refused answer.1 (same_reply answer.0 (meant shows written)) (never_written shows answer.0 written h)

said_step : {S : Type 0} (new : S) (t : Bool) → Accepts (if t then Some new else None) new t
said_step new true = refl
said_step new false = refl

-- what was answered accepts the replies that agree with it
pub accepts_where_it_agrees : {S : Type 0} (shows : Bool) (answer : Option (ReplyMark × S)) (new : S) (said : Option Reply) (written : Reply) → IsAnswer shows answer new said → Accepts (accepted answer (meant shows written)) new (agrees said written)
accepts_where_it_agrees shows answer new None written h = no_answer shows answer written h
accepts_where_it_agrees shows answer new (Some said) written h =
    rw (h, same_meant shows said written) (said_step new (same_reply (giving said) (giving written)))

-- the one answer accepts the replies that are the same
pub accepts_the_same : {S : Type 0} (answer : ReplyMark × S) (new : S) (said written : Reply) → answer ≡ (giving said, new) → Accepts (accepted (Some answer) (giving written)) new (same_reply (giving said) (giving written))
accepts_the_same answer new said written h = rw h (said_step new (same_reply (giving said) (giving written)))

-- the same of a state that is one of a kind
pub accepts_mapped : {S T : Type 0} (f : S → T) (after : Option S) (new : S) (ok : Bool) → Accepts after new ok → Accepts (option_map f after) (f new) ok
accepts_mapped f after new true h = ap (option_map f) h
accepts_mapped f after new false h = ap (option_map f) h

pub accepts_of_queue : (room first_len : ℕ) (items after : List Mark) (said : Option Reply) (e : Entry) → IsAnswer false (queue_answer room items (call_of e.call)) after said
    → Accepts (stepped number_priority (object.Queue room first_len) (QueueState items) (entry_of (object.Queue room first_len) e)) (QueueState after) (agrees said e.reply)
accepts_of_queue room first_len items after said e h =
    accepts_mapped QueueState (accepted (queue_answer room items (call_of e.call)) (giving e.reply)) after (agrees said e.reply)
    (accepts_where_it_agrees false (queue_answer room items (call_of e.call)) after said e.reply h)

pub accepts_of_blocking : (store : Store) (bound : Option ℕ) (s after : Blocking) (said : Option Reply) (e : Entry) → IsAnswer false (blocking_answer store bound s e.caller (call_of e.call)) after said
    → Accepts (stepped number_priority (object.Blocking store bound) (BlockingState s) (entry_of (object.Blocking store bound) e)) (BlockingState after) (agrees said e.reply)
accepts_of_blocking store bound s after said e h =
    accepts_mapped BlockingState (accepted (blocking_answer store bound s e.caller (call_of e.call)) (giving e.reply)) after (agrees said e.reply)
    (accepts_where_it_agrees false (blocking_answer store bound s e.caller (call_of e.call)) after said e.reply h)

pub accepts_of_bag : (s after : Lists) (ok : Bool) (e : Entry) → Accepts (bag_step s e.caller (call_of e.call) (giving e.reply)) after ok → Accepts (stepped number_priority object.Bag (BagState s) (entry_of object.Bag e)) (BagState after) ok
accepts_of_bag s after ok e h = accepts_mapped BagState (bag_step s e.caller (call_of e.call) (giving e.reply)) after ok h

pub accepts_of_unbounded : (s after : Channel) (ok : Bool) (e : Entry) → Accepts (accepted (channel_answer unbounded s e.caller (call_of e.call)) (meant (is_peek e.call) e.reply)) after ok → Accepts (stepped number_priority object.Unbounded (ChannelState s) (entry_of object.Unbounded e)) (ChannelState after) ok
accepts_of_unbounded s after ok e h = accepts_mapped ChannelState (accepted (channel_answer unbounded s e.caller (call_of e.call)) (meant (is_peek e.call) e.reply)) after ok h

pub accepts_of_bounded : (capacity : ℕ) (mode : Mode) (s after : Channel) (ok : Bool) (e : Entry) → Accepts (accepted (channel_answer (bounded capacity mode) s e.caller (call_of e.call)) (meant (is_peek e.call) e.reply)) after ok
    → Accepts (stepped number_priority (object.Bounded capacity mode) (ChannelState s) (entry_of (object.Bounded capacity mode) e)) (ChannelState after) ok
accepts_of_bounded capacity mode s after ok e h = accepts_mapped ChannelState (accepted (channel_answer (bounded capacity mode) s e.caller (call_of e.call)) (meant (is_peek e.call) e.reply)) after ok h

pub accepts_of_prioritized : (s after : Channel) (ok : Bool) (e : Entry) → Accepts (accepted (channel_answer (prioritized number_priority) s e.caller (call_of e.call)) (meant (is_peek e.call) e.reply)) after ok → Accepts (stepped number_priority object.Prioritized (ChannelState s) (entry_of object.Prioritized e)) (ChannelState after) ok
accepts_of_prioritized s after ok e h = accepts_mapped ChannelState (accepted (channel_answer (prioritized number_priority) s e.caller (call_of e.call)) (meant (is_peek e.call) e.reply)) after ok h
