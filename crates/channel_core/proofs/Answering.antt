-- A wait is answered in its place.
use Rattle.std.proofs.Common.{◌≡◌, ℕ, List, length, ◌<◌, set, get_or, sym, ◌∙◌, ap}
use Rattle.std.proofs.lemmas.List.{map-set, get_or-map}
use Rattle.ho_base.specs.Marks.{Mark}
use Rattle.ho_model.specs.Channel as channel
use Rattle.channel_core.specs.Marks.{waiter_mark, waits_mark, settled_mark}
use Rattle.channel_core.specs.declared.waits.Waiter.{Waiter}
use Rattle.channel_core.specs.declared.waits.Standing.TheVariants as standing
use Rattle.channel_core.specs.declared.waits.Settled.{Settled}

pub answered_there : {T : Type 0} (mark : T → Mark) (ws : List (Waiter T)) (i : ℕ) (d : Waiter T) (r : Settled T) → i < length ws → waits_mark mark (set ws i (record { caller = (get_or ws i d).caller; number = (get_or ws i d).number; standing = standing.Answered r })) ≡ channel.answer_at (waits_mark mark ws) i (settled_mark mark r)
answered_there mark ws i d r lt =
    let there = get_or-map (waiter_mark mark) ws i d channel.no_waiter lt in
    map-set (waiter_mark mark) ws i (record { caller = (get_or ws i d).caller; number = (get_or ws i d).number; standing = standing.Answered r })
    ∙ ap (λ w. set (waits_mark mark ws) i (channel.answered w (settled_mark mark r))) (sym there)
