-- What the rule says of a seat's turn and of the obstacles that it met, and how another seat's step leaves it.
use Rattle.std.proofs.Common.{◌≡◌, ◌≢◌, ℕ, ◌+◌, ◌<◌, ◌≤◌, List, length, refl, sym, ap, ◌∙◌, subst, arith}
use Rattle.std.specs.Prelude.{All}
use Rattle.std.proofs.lemmas.List.Elements.{All-weaker}
use Rattle.ho_model.specs.declared.marks.EntryMark.{EntryMark}
use Rattle.turn_lock.specs.declared.view.Obstacle.{Obstacle}
use Rattle.turn_lock.specs.declared.view.Turn.{Turn}
use Rattle.turn_lock.specs.declared.view.Turn.TheVariants.{Idle, Looked, Drawn, Holds, Entered, Joined}
use Rattle.turn_lock.specs.Views.{HasTicket, HasTurn}
use Rattle.turn_lock.specs.Rule.{TurnFact, WasOut}

turn_number : Turn → ℕ
turn_number Idle = 0
turn_number (Looked k) = k
turn_number (Drawn k) = k
turn_number (Holds k) = k
turn_number (Entered k) = k
turn_number (Joined p q h h') = 0

pub holds_one : (k k' : ℕ) → Holds k ≡ Holds k' → k ≡ k'
unfolding turn_number
holds_one k k' e = ap turn_number e

pub drawn_one : (k k' : ℕ) → Drawn k ≡ Drawn k' → k ≡ k'
unfolding turn_number
drawn_one k k' e = ap turn_number e

-- seats that have no ticket
pub idle_free : (x : Turn) → x ≡ Idle → (t : ℕ) → HasTicket x t → ⊥
idle_free x e t = subst (λ (y : Turn). HasTicket y t → ⊥) (sym e) (λ h. h)

pub looked_free : (x : Turn) (k : ℕ) → x ≡ Looked k → (t : ℕ) → HasTicket x t → ⊥
looked_free x k e t = subst (λ (y : Turn). HasTicket y t → ⊥) (sym e) (λ h. h)

pub drawn_waits : (x : Turn) (k : ℕ) → x ≡ Drawn k → (t : ℕ) → HasTurn x t → ⊥
drawn_waits x k e t = subst (λ (y : Turn). HasTurn y t → ⊥) (sym e) (λ h. h)

-- who has the turn has its ticket, and no other
pub turn_ticket : (x : Turn) (t : ℕ) → HasTurn x t → HasTicket x t
turn_ticket Idle t h = h
turn_ticket (Looked r) t h = h
turn_ticket (Drawn k) t h = absurd h
turn_ticket (Holds k) t h = h
turn_ticket (Entered k) t h = h
turn_ticket (Joined p q h h') t g = g

pub one_ticket : (x : Turn) (t k : ℕ) → HasTicket x t → HasTurn x k → k ≡ t
one_ticket Idle t k h g = absurd h
one_ticket (Looked r) t k h g = absurd h
one_ticket (Drawn r) t k h g = absurd g
one_ticket (Holds r) t k h g = sym g ∙ h
one_ticket (Entered r) t k h g = sym g ∙ h
one_ticket (Joined p q h' h'') t k h g = absurd h

-- obstacles stay true as the words grow
pub read_later : (serving ticket serving' ticket' : ℕ) (met : List Obstacle) → serving ≤ serving' → ticket ≤ ticket' → All (WasOut serving ticket) met → All (WasOut serving' ticket') met
read_later serving ticket serving' ticket' met le le' all = All-weaker (WasOut serving ticket) (WasOut serving' ticket') one met all
  where
    one : (o : Obstacle) → WasOut serving ticket o → WasOut serving' ticket' o
    one o w = let a : o.serving ≤ serving = w.1 in let b : o.ticket ≤ ticket = w.2 in (w.0, omega arith, omega arith)

module _ (serving ticket : ℕ) (log : List EntryMark) (server : ℕ → ℕ) (seat : ℕ) (seen : List EntryMark) (active whole : Type 0) where
  -- a ticket is not served yet, was drawn, and is this seat's
  pub has_ticket : (x : Turn) (t : ℕ) → HasTicket x t → TurnFact serving ticket log server seat seen active whole x → (serving ≤ t) × (t < ticket) × (server t ≡ seat) × active
  has_ticket Idle t h f = absurd h
  has_ticket (Looked r) t h f = absurd h
  has_ticket (Drawn k) t h f = subst (λ (z : ℕ). (serving ≤ z) × (z < ticket) × (server z ≡ seat) × active) h (f.0, f.1, f.2, f.3)
  has_ticket (Holds k) t h f = let a : k ≡ serving = f.0 in subst (λ (z : ℕ). (serving ≤ z) × (z < ticket) × (server z ≡ seat) × active) h (omega arith, f.1, f.2, f.3)
  has_ticket (Entered k) t h f = let a : k ≡ serving = f.0 in subst (λ (z : ℕ). (serving ≤ z) × (z < ticket) × (server z ≡ seat) × active) h (omega arith, f.1, f.2, f.3)
  has_ticket (Joined p q h h') t g f = absurd g

  -- a turn is the one that is served, and its seat has seen the whole history
  pub has_turn : (x : Turn) (t : ℕ) → HasTurn x t → TurnFact serving ticket log server seat seen active whole x → (t ≡ serving) × (t < ticket) × (server t ≡ seat) × active × (seen ≡ log) × (length log ≤ t + 1)
  has_turn Idle t h f = absurd h
  has_turn (Looked r) t h f = absurd h
  has_turn (Drawn r) t h f = absurd h
  has_turn (Holds k) t h f = let a : k ≡ t = h in let b : k ≡ serving = f.0 in let c : k < ticket = f.1 in let d : length log ≤ k = f.5 in (omega arith, omega arith, ap server (sym a) ∙ f.2, f.3, f.4, omega arith)
  has_turn (Entered k) t h f = let a : k ≡ t = h in let b : k ≡ serving = f.0 in let c : k < ticket = f.1 in let d : length log ≤ k + 1 = f.5 in (omega arith, omega arith, ap server (sym a) ∙ f.2, f.3, f.4, omega arith)
  has_turn (Joined p q h' h'') t h f = absurd h

  -- a seat without a ticket has seen no more entries than turns are over
  pub turn_short : (x : Turn) → ((t : ℕ) → HasTicket x t → ⊥) → TurnFact serving ticket log server seat seen active whole x → length seen ≤ serving
  turn_short Idle free f = f
  turn_short (Looked r) free f = let a : r ≤ serving = f.0 in let b : length seen ≤ r = f.2 in omega arith
  turn_short (Drawn k) free f = f.4
  turn_short (Holds k) free f = absurd (free k refl)
  turn_short (Entered k) free f = absurd (free k refl)
  turn_short (Joined p q h h') free f = f.1

  -- another seat drew a ticket
  pub turn_stays : (ticket' : ℕ) (server' : ℕ → ℕ) → ticket ≤ ticket' → ((t : ℕ) → t < ticket → server t ≡ seat → server' t ≡ seat) → (x : Turn)
      → TurnFact serving ticket log server seat seen active whole x → TurnFact serving ticket' log server' seat seen active whole x
  turn_stays ticket' server' le same Idle f = f
  turn_stays ticket' server' le same (Looked r) f = f
  turn_stays ticket' server' le same (Drawn k) f = let a : k < ticket = f.1 in (f.0, omega arith, same k f.1 f.2, f.3, f.4)
  turn_stays ticket' server' le same (Holds k) f = let a : k < ticket = f.1 in (f.0, omega arith, same k f.1 f.2, f.3, f.4, f.5)
  turn_stays ticket' server' le same (Entered k) f = let a : k < ticket = f.1 in (f.0, omega arith, same k f.1 f.2, f.3, f.4, f.5)
  turn_stays ticket' server' le same (Joined p q h h') f = f

  -- another seat, which has the turn, made its entry, or gave the turn back
  pub turn_passes : (log' : List EntryMark) (serving' : ℕ) → server serving ≢ seat → serving ≤ serving' → serving' ≤ serving + 1 → (whole → serving' ≡ serving) → (x : Turn)
      → TurnFact serving ticket log server seat seen active whole x → TurnFact serving' ticket log' server seat seen active whole x
  turn_passes log' serving' not lo hi still Idle f = let a : length seen ≤ serving = f in omega arith
  turn_passes log' serving' not lo hi still (Looked r) f = let a : r ≤ serving = f.0 in (omega arith, (λ w. f.1 w ∙ sym (still w)), f.2)
  turn_passes log' serving' not lo hi still (Drawn k) f = let a : serving ≤ k = f.0 in let ne : k ≢ serving = λ e. not (ap server (sym e) ∙ f.2) in let b : length seen ≤ serving = f.4 in (omega arith, f.1, f.2, f.3, omega arith)
  turn_passes log' serving' not lo hi still (Holds k) f = absurd (not (ap server (sym f.0) ∙ f.2))
  turn_passes log' serving' not lo hi still (Entered k) f = absurd (not (ap server (sym f.0) ∙ f.2))
  turn_passes log' serving' not lo hi still (Joined p q h h') f = let a : length seen ≤ serving = f.1 in (f.0, omega arith)
