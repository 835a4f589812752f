-- A call that tries again ends as its last try.
use Rattle.std.proofs.Common.{◌≡◌, ℕ, List, [], ◌∷◌, ◌++◌, Bool, sym, refl, subst}
use Rattle.ho_base.specs.Marks.{Mark}
use Rattle.bag_rule.specs.declared.view.View.{View}
use Rattle.bag_rule.specs.declared.view.Obstacle.{Obstacle}
use Rattle.bag_rule.specs.declared.view.Obstacle.TheVariants.{Held}
use Rattle.bag_rule.specs.Plays.{Sits}
use Rattle.bag_tries.specs.declared.adds.AddTry.{AddTry}
use Rattle.bag_tries.specs.declared.adds.AddTry.TheVariants as adds
use Rattle.bag_tries.specs.declared.takes.TakeTry.{TakeTry}
use Rattle.bag_tries.specs.declared.takes.TakeTry.TheVariants as takes
use Rattle.bag_tries.specs.Causes.{IsOther, AreHeld, OwnIsHeld}
use Rattle.bag_tries.specs.Seats.{HasRead, MadeNone}
use Rattle.bag_tries.specs.Adds.{TryAdds, EndsAdds, done_entry, full_entry}
use Rattle.bag_tries.specs.Takes.{TryTakes, EndsTakes, item_entry, bare_entry}
use Rattle.bag_tries.proofs.Lifts.{lift_none, lift_entry}

-- the try made its entry, or had the own list
abbrev pub IsAddEnd : {T : Type 0} → AddTry T → Type 0
IsAddEnd (adds.Held back) = ⊥
IsAddEnd _ = Unit {0}

-- the try made its entry
abbrev pub IsTakeEnd : {T : Type 0} → TakeTry T → Type 0
IsTakeEnd takes.Held = ⊥
IsTakeEnd takes.Lost = ⊥
IsTakeEnd _ = Unit {0}

-- others held the own list before, and one did once more
pub held_more : (n c : ℕ) (held : List Bool) (before : List Obstacle) (other : ℕ) → AreHeld n c held before → IsOther n c held other → AreHeld n c held (before ++ Held c other ∷ [])
held_more n c held [] other are is = ((other, is, refl), tt)
held_more n c held (o ∷ before) other are is = (are.0, held_more n c held before other are.1 is)

pub held_later : (c : ℕ) (v w : View) (first : List Obstacle) → HasRead v w first → AreHeld v.callers c v.held first → (read : List Obstacle) → OwnIsHeld w.callers c w.held read → AreHeld v.callers c v.held (first ++ read)
held_later c v w first later are read own =
    let its = subst (λ (z : ℕ × List Bool). IsOther z.0 c z.1 own.0) (λ i. (later.callers i, later.held i)) own.1 in
    subst (λ (z : List Obstacle). AreHeld v.callers c v.held (first ++ z)) (sym own.2) (held_more v.callers c v.held first own.0 are its)

module _ {T : Type 0} (pr : Mark → ℕ) (mark : T → Mark) (c : ℕ) (v w : View) (first : List Obstacle) (later : HasRead v w first) (m : Sits) where
  -- the try that ends a call that tries again
  pub adds_later : (item given : T) → given ≡ item → AreHeld v.callers c v.held first → (r : AddTry T) → IsAddEnd r → TryAdds pr mark c w given m r → EndsAdds pr mark c v item m r
  adds_later item given is are r end k = over r end (subst (λ (x : T). TryAdds pr mark c w x m r) is k)
    where
      over : (r : AddTry T) → IsAddEnd r → TryAdds pr mark c w item m r → EndsAdds pr mark c v item m r
      over (adds.Done place) end k = lift_entry pr v w first later m (done_entry pr mark c item) place k
      over (adds.Full place back) end k = (k.0, lift_entry pr v w first later m (full_entry pr mark c item) place k.1)
      over (adds.Held back) end k = absurd end
      over (adds.NoMemory back) end k = (k.0, first, k.1, lift_none pr v w first later m k.1 k.2, are, k.3)

  pub takes_later : (r : TakeTry T) → IsTakeEnd r → TryTakes pr mark c w m r → EndsTakes pr mark c v m r
  takes_later (takes.Item from item place) end k = lift_entry pr v w first later m (item_entry pr mark c item from) place k
  takes_later (takes.Empty place) end k = lift_entry pr v w first later m (bare_entry pr mark c) place k
  takes_later takes.Held end k = absurd end
  takes_later takes.Lost end k = absurd end

-- a seat that made no entry is idle, and has read more
pub none_read : (pr : Mark → ℕ) (v : View) (read : List Obstacle) (m : Sits) → MadeNone pr v read m → HasRead v m.0 read
none_read pr v read m n = record { callers = n.back.callers; caller = n.back.caller; held = n.back.held; seen = n.seen; made = n.made; met = n.met }
