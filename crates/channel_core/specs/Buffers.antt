-- What contracts see of a buffer in order.
use Rattle.std.specs.Prelude.{ℕ, List, map, Option, Some, None}
use Rattle.std.specs.VecDeque.{deque_items}
use Rattle.ho_base.specs.Marks.{Mark}
use Rattle.channel_core.specs.declared.buffer.Buffer.{Buffer}
use Rattle.channel_core.specs.declared.buffer.Buffer.TheVariants.{Ring, Open}

abbrev pub buffer_items : {T : Type 0} → (T → Mark) → Buffer T → List Mark
buffer_items mark (Ring ring) = map mark ring.items
buffer_items mark (Open queue) = map mark (deque_items queue)

abbrev pub buffer_capacity : {T : Type 0} → Buffer T → Option ℕ
buffer_capacity (Ring ring) = Some ring.capacity
buffer_capacity (Open queue) = None
