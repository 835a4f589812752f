-- What a write, a read or a look of a channel that is played comes to.
use Rattle.std.specs.Prelude.{◌≡◌, [], Option, Some, None, if◌then◌else◌}
use Rattle.ho_base.specs.Marks.{number_priority}
use Rattle.ho_model.specs.declared.replays.tried.Kind.{Kind}
use Rattle.ho_model.specs.declared.replays.tried.Tried.{Tried}
use Rattle.ho_model.specs.declared.replays.tried.Tried.TheVariants.{Answer, Unwritten, Wait}
use Rattle.ho_model.specs.Entries.{Dropped}
use Rattle.ho_model.specs.Channel as channel
use Rattle.ho_model.specs.Written.{giving}

abbrev pub kind_of : Kind → channel.Kind
kind_of k =
    record { capacity = k.capacity; mode = k.mode; priority = if k.by_priority then Some number_priority else None }

-- it is answered, with this state; or it drops an item that never was; or it would have to wait, and
-- nothing has changed
abbrev pub IsTried : Option channel.Outcome → channel.Channel → channel.Channel → Tried → Type 0
IsTried outcome old new (Answer said) = outcome ≡ Some (giving said, new)
IsTried outcome old new Unwritten = (t : channel.Channel) × (outcome ≡ Some (Dropped [], t))
IsTried outcome old new Wait = (outcome ≡ None) × (new ≡ old)
