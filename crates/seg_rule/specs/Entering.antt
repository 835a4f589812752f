-- The entries that a load makes, where the value that it reads decides them.
use Rattle.std.specs.Prelude.{◌≡◌, ℕ, ◌+◌, ◌-◌, Bool, [], ◌∷◌, if◌then◌else◌, Some}
use Rattle.ho_model.specs.declared.marks.CallMark.TheVariants.{Enq, Deq, Peek, Count}
use Rattle.ho_model.specs.declared.marks.ReplyMark.TheVariants as reply
use Rattle.ho_model.specs.Entries.{entry}
use Rattle.seg_rule.specs.declared.view.View.{View}
use Rattle.seg_rule.specs.declared.view.OpenTail.{OpenTail}
use Rattle.seg_rule.specs.declared.view.Stage.TheVariants.{Closed}
use Rattle.seg_rule.specs.Tells.{room_in}
use Rattle.seg_rule.specs.Steps.{Enters, MayCount, front_of}

-- the enqueue of the item y finds as many items as there is room for, with the tail at t
abbrev pub EntersFull : View → ℕ → ℕ → View → Type 0
EntersFull v y t w = Enters v (entry v.caller (Enq (y ∷ [])) reply.Full) (λ counts. (counts.enqueued ≡ t) × (counts.taken + room_in v.object ≡ t)) v.hand w

-- a dequeue or a peek finds no item, with head and tail at h
abbrev pub EntersEmpty : View → ℕ → Bool → View → Type 0
EntersEmpty v h peek w = Enters v (entry v.caller (if peek then Peek else Deq) reply.Empty) (λ counts. (counts.enqueued ≡ h) × (counts.taken ≡ h)) v.hand w

-- a peek finds the item y, with the head at h
abbrev pub EntersPeek : View → ℕ → ℕ → View → Type 0
EntersPeek v h y w = Enters v (entry v.caller Peek (reply.Item (y ∷ []))) (λ counts. counts.taken ≡ h) v.hand w

-- a count, with the tail at t and the head at h
abbrev pub EntersCount : View → ℕ → ℕ → View → Type 0
EntersCount v t h w = Enters v (entry v.caller Count (reply.Counted (t - h))) (λ counts. (counts.enqueued ≡ t) × (counts.taken ≡ h)) v.hand w

-- What each asks of the view.

abbrev pub MayEnterFull : View → ℕ → Type 0
MayEnterFull v t = MayCount v × ((o : OpenTail) × (v.notes.tail ≡ Some o) × (o.position ≡ t))

abbrev pub MayEnterEmpty : View → ℕ → Type 0
MayEnterEmpty v h = MayCount v × (v.notes.head ≡ Some h)

abbrev pub MayEnterPeek : View → ℕ → ℕ → Type 0
MayEnterPeek v h y = MayCount v × ((q i : ℕ) × (v.notes.front ≡ Some (front_of h q i y)))

abbrev pub MayEnterCount : View → ℕ → Type 0
MayEnterCount v t = MayCount v × ((q : ℕ) × (full : Bool) × (v.stage ≡ Closed q t full))
