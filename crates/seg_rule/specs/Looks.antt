-- A load by a pass: what it asks, and how the fields of the pass follow it.
use Rattle.std.specs.Prelude.{◌≤◌, ◌≡◌, ℕ, ◌+◌, ◌*◌, ◌&&◌, false, None}
use Rattle.seg_rule.specs.declared.word.QueueWord.{QueueWord}
use Rattle.seg_rule.specs.declared.word.QueueWord.TheVariants.{Head, Current, First, Tail, Length, Number}
use Rattle.seg_rule.specs.declared.entering.Entering.{Entering}
use Rattle.seg_rule.specs.declared.entering.Entering.TheVariants as entering
use Rattle.seg_rule.specs.declared.pass.Here.{Here}
use Rattle.seg_rule.specs.declared.view.View.{View}
use Rattle.seg_rule.specs.declared.view.Leave.TheVariants.{Measured}
use Rattle.seg_rule.specs.declared.view.Hand.{Hand}
use Rattle.seg_rule.specs.declared.view.Hand.TheVariants.{Nothing, Taking}
use Rattle.seg_rule.specs.Entering.{EntersFull, EntersEmpty, EntersPeek, EntersCount, MayEnterFull, MayEnterEmpty, MayEnterPeek, MayEnterCount}
use Rattle.seg_rule.specs.Plays.{Reads, Decided}

abbrev pub first_here : Here
first_here = record { position = 0; place = 0; slot = 0; tail_slot = 0; value = 0; length = 0; closed_place = 0; closed_at = 0; first_slot = 0; paid = false; turn = false }

abbrev pub here_after : QueueWord → ℕ → Here → Here
here_after Current x h = record h { paid = h.turn && h.paid }
here_after First x h = record h { paid = h.turn && h.paid }
here_after (Length p) x h = record h { length = x }
here_after (Number p i) x h = record h { place = p; slot = i; tail_slot = i }
here_after _ x h = h

-- no length was read for a take yet
abbrev pub IsUnmeasured : Hand → Type 0
IsUnmeasured (Taking p q i (Measured n)) = ⊥
IsUnmeasured _ = Unit {0}

-- a call reads the number of a slot, the first and the current place with nothing in hand
abbrev pub MayLook : QueueWord → View → Type 0
MayLook Current v = (v.hand ≡ Nothing) × (v.window ≡ None)
MayLook First v = (v.hand ≡ Nothing) × (v.window ≡ None)
MayLook (Length p) v = IsUnmeasured v.hand
MayLook (Number p i) v = v.hand ≡ Nothing
MayLook _ v = Unit {0}

-- the entry that a load may make is one of its word
abbrev pub MayLoad : QueueWord → Entering → View → Type 0
MayLoad w entering.Nothing v = MayLook w v
MayLoad Head (entering.Full value tail) v = MayEnterFull v tail
MayLoad (Tail p) (entering.Empty head peek) v = MayEnterEmpty v head
MayLoad Head (entering.Peek head item) v = MayEnterPeek v head item
MayLoad Head (entering.Count tail) v = MayEnterCount v tail
MayLoad _ _ v = ⊥

-- The word read x in a queue with so much room: the entry is made where the value decides it, and else the load is one of that word alone.
abbrev pub Loads : ℕ → QueueWord → Entering → ℕ → View → View → Type 0
Loads room w entering.Nothing x v v' = Reads w x v v'
Loads room w (entering.Full value tail) x v v' = Decided (x + room ≡ tail) (EntersFull v value tail v') (Reads Head x v v')
Loads room (Tail p) (entering.Empty head peek) x v v' = Decided (x ≡ 2 * head) (EntersEmpty v head peek v') (Reads (Tail p) x v v')
Loads room w (entering.Empty head peek) x v v' = ⊥
Loads room w (entering.Peek head item) x v v' = Decided (x ≡ head) (EntersPeek v head item v') (Reads Head x v v')
Loads room w (entering.Count tail) x v v' = EntersCount v tail x v' × (x ≤ tail)
