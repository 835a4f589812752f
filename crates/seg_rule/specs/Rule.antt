-- The rule of the queue's table: what holds between any two steps.
-- Its parts name the values that they depend on, so that a part which a step does not touch is the same type after it. What a part says of a view names what no word tells, and no word.
use Rattle.std.specs.Prelude.{◌≡◌, ◌≢◌, ℕ, zero, suc, ◌+◌, ◌-◌, ◌*◌, ◌%◌, ◌^◌, ◌<◌, ◌≤◌, ◌⊎◌, Bool, true, false, cond, ltb, leb, eqb, ◌&&◌, List, [], ◌∷◌, length, slice_index, sum, Option, Some, None, IfSome}
use mathlib.Core.Option.{some}
use lib.ListN.{get_elem?}
use Rattle.atomic_table.specs.Table.{State}
use Rattle.ho_base.specs.Marks.{Mark}
use Rattle.ho_model.specs.declared.marks.EntryMark.{EntryMark}
use Rattle.ho_model.specs.declared.objects.Object.{Object}
use Rattle.ho_model.specs.declared.objects.Object.TheVariants.{Queue}
use Rattle.passes.specs.Numbers.{HasNumber, HasAll}
use Rattle.passes.specs.Seen.{AreBelow}
use Rattle.passes.specs.Holders.{Holder, Meet}
use Rattle.seg_rule.specs.declared.word.QueueWord.TheVariants.{Head, Turn, Current, First, Tail, Start, Length, Observers, Done, Next, Segment, Number, Item}
use Rattle.seg_rule.specs.declared.form.Form.{Form}
use Rattle.seg_rule.specs.declared.view.View.{View}
use Rattle.seg_rule.specs.declared.view.Notes.{Notes}
use Rattle.seg_rule.specs.declared.view.OpenTail.{OpenTail}
use Rattle.seg_rule.specs.declared.view.Front.{Front}
use Rattle.seg_rule.specs.declared.view.Candidate.{Candidate}
use Rattle.seg_rule.specs.declared.view.Scan.{Scan}
use Rattle.seg_rule.specs.declared.view.Window.{Window}
use Rattle.seg_rule.specs.declared.view.Joint.{Joint}
use Rattle.seg_rule.specs.declared.view.Leave.{Leave}
use Rattle.seg_rule.specs.declared.view.Leave.TheVariants.{Unread, Granted, Measured, Refused, Released}
use Rattle.seg_rule.specs.declared.view.Hand.{Hand}
use Rattle.seg_rule.specs.declared.view.Hand.TheVariants.{Nothing, Reserved, Stored, Taking}
use Rattle.seg_rule.specs.declared.view.Stage.{Stage}
use Rattle.seg_rule.specs.declared.view.Stage.TheVariants.{Away, Plain, Closed, Found, Preparing, Opened, Linked, Observing}
use Rattle.seg_layout.specs.Lengths.{IsFirstLength, IsSegmentLength, next_len_of, longest_of, places_of}
use Rattle.seg_rule.specs.Words.{Memory, memory, words_of}
use Rattle.seg_rule.specs.Object.{Stands}
use Rattle.seg_rule.specs.Chain.{Seg, Segs, ChainOk, TailNote, end_of}
use Rattle.seg_rule.specs.Slots.{free, writing, stored, full, reading, up, holder}
use Rattle.seg_rule.specs.Places.{Cells, HomeOk, SlotsOk}

abbrev pub object_of : Form → Object
object_of f = Queue f.room f.first_len

-- the table's places and slots are those for so much room, first length and callers
pub record IsShape (f : Form) : Type 0 where
  pub room : (0 < f.room) × (f.room ≤ 65536)
  pub first_len : IsFirstLength f.first_len
  pub callers : (0 < f.callers) × (f.callers ≤ 64)
  pub places : f.places ≡ places_of f.room f.first_len f.callers
  pub slots : f.slots ≡ longest_of f.first_len
  pub small : f.places * f.slots ≤ 33554432

-- what no word tells
pub record Ghosts : Type 0 where
  -- the history, the count of each caller's calls, the seat that holds each number, and how many calls have counted and made no entry
  pub log : List EntryMark
  pub made : List ℕ
  pub owner : ℕ → ℕ
  pub paid : ℕ
  -- the items that were enqueued, in order, who enqueued them, how many they are, and how many were taken
  pub values : List Mark
  pub putters : List ℕ
  pub put : ℕ
  pub taken : ℕ
  -- the segments by number. Those from low to last are the chain, now is that of the current place, and those below linked have a next word
  pub segs : Segs
  pub low : ℕ
  pub now : ℕ
  pub linked : ℕ
  pub last : ℕ
  -- of each place the segment last opened in it and 1, or 0; of each slot its position and how far it is
  pub home : ℕ → ℕ
  pub cells : Cells
  -- of each place the unfinished takes in it, and of each segment the windows over it
  pub untold : ℕ → ℕ
  pub watch : ℕ → ℕ
  -- nobody who has leave now releases a position of the segment k from bar k on
  pub bar : ℕ → ℕ
  -- the seat that has the turn and 1, its caller and 1, or 0 and 0
  pub turn : ℕ
  pub called : ℕ
  -- 1 while the last tail is closed, or 0
  pub shut : ℕ
  -- the place in preparation and 1, or 0; what it is prepared for; and how many of its words were written
  pub prep : ℕ
  pub plan : Seg
  pub written : ℕ

-- the pass holds all numbers, so there is no other caller
abbrev pub IsWhole : View → Type 0
IsWhole v = HasAll v.callers v.held

abbrev pub flag : Bool → ℕ
flag b = cond b 1 0

-- what a view adds to the sums
abbrev pub paid_of : View → ℕ
paid_of v = flag v.paid

abbrev pub takes_at : ℕ → Hand → ℕ
takes_at q Nothing = 0
takes_at q (Reserved p q' i x) = 0
takes_at q (Stored p q' i x) = 0
takes_at q (Taking p q' i leave) = flag (eqb q' q)

abbrev pub takes_in : ℕ → View → ℕ
takes_in q v = takes_at q v.hand

abbrev pub in_range : ℕ → Option Window → Bool
in_range k None = false
in_range k (Some w) = leb w.begin k && ltb k w.end

abbrev pub watches : ℕ → View → ℕ
watches k v = flag (in_range k v.window)

abbrev pub total : (View → ℕ) → List View → ℕ
total g [] = 0
total g (v ∷ vs) = g v + total g vs

-- The parts on words.

-- the head, and the tail position of the last segment
pub record Counts (f : Form) (head : ℕ) (log : List EntryMark) (values : List Mark) (putters : List ℕ) (put taken : ℕ) : Type 0 where
  pub head_is : head ≡ taken
  pub behind : taken ≤ put
  pub within : put ≤ taken + f.room
  pub sized : length values ≡ put
  pub sized_by : length putters ≡ put
  pub stands : Stands f.room f.first_len log values putters taken

-- entries are bounded by the calls that were counted, and each caller's calls by its limit
pub record Calls (f : Form) (log : List EntryMark) (made : List ℕ) (paid : ℕ) : Type 0 where
  pub sized : length made ≡ f.callers
  pub small : f.callers ≤ 64
  pub below : AreBelow f.callers log
  pub few : length log + paid ≤ sum made
  pub each : (c : ℕ) → slice_index made c ≤ 2 ^ 48

-- a segment after one of the length `len` has the first length, or the next one
abbrev pub FollowsLength : Form → ℕ → ℕ → Type 0
FollowsLength f len next = (next ≡ f.first_len) ⊎ (next ≡ next_len_of f.first_len len false)

-- the segments lie in the table, and have the lengths that they may have
pub record Ranges (f : Form) (segs : Segs) (last : ℕ) : Type 0 where
  pub placed : (k : ℕ) → k ≤ last → (segs k).place < f.places
  pub sized : (k : ℕ) → k ≤ last → (segs k).len ≤ f.slots
  pub first_len : IsFirstLength f.first_len
  pub lengths : (k : ℕ) → k ≤ last → IsSegmentLength f.first_len (segs k).len
  pub opening : (segs 0).len ≡ f.first_len
  pub following : (k : ℕ) → suc k ≤ last → FollowsLength f (segs k).len (segs (suc k)).len

-- the tail word of a place, by the segment last opened in it
abbrev pub tail_word : Segs → ℕ → ℕ → ℕ → ℕ → ℕ
tail_word segs last put shut zero = 1
tail_word segs last put shut (suc k) = cond (eqb k last) (2 * put + shut) (2 * (segs (suc k)).start + 1)

abbrev pub TailsOk : (ℕ → ℕ) → ℕ → Segs → ℕ → ℕ → ℕ → (ℕ → ℕ) → Type 0
TailsOk tail places segs last put shut home = (q : ℕ) → q < places → tail q ≡ tail_word segs last put shut (home q)

-- the words of the chain
pub record LinksOk (first current : ℕ) (next : ℕ → ℕ) (segs : Segs) (low now linked last : ℕ) (home : ℕ → ℕ) (prep : ℕ) : Type 0 where
  pub first_is : first ≡ (segs low).place
  pub current_is : current ≡ (segs now).place
  pub order : (low ≤ now) × (now ≤ linked) × (linked ≤ last) × (last ≤ suc now)
  pub next_is : (k : ℕ) → k < linked → home ((segs k).place) ≡ suc k → prep ≢ suc ((segs k).place) → next ((segs k).place) ≡ (segs (suc k)).place

-- the words of a place that are only read
abbrev pub PlacesOk : (ℕ → ℕ) → (ℕ → ℕ) → (ℕ → ℕ) → Segs → (ℕ → ℕ) → ℕ → Type 0
PlacesOk start len number segs home prep = (q k : ℕ) → home q ≡ suc k → prep ≢ suc q → (start q ≡ (segs k).start) × (len q ≡ (segs k).len) × (number q ≡ k)

-- the length word of every place is one that a segment may have
abbrev pub SizesOk : (ℕ → ℕ) → Form → Type 0
SizesOk len f = (q : ℕ) → q < f.places → IsSegmentLength f.first_len (len q)

-- how many positions from s up to e are below h
abbrev pub passed : ℕ → ℕ → ℕ → ℕ
passed h s e = cond (ltb h e) (h - s) (e - s)

abbrev pub DonesOk : (ℕ → ℕ) → (ℕ → ℕ) → Segs → ℕ → ℕ → ℕ → (ℕ → ℕ) → ℕ → Type 0
DonesOk done untold segs last put taken home prep = (q k : ℕ) → home q ≡ suc k → prep ≢ suc q → done q + untold q ≡ passed taken ((segs k).start) (end_of segs last put k)

abbrev pub watched : (ℕ → ℕ) → ℕ → ℕ
watched watch zero = 0
watched watch (suc k) = watch k

abbrev pub ObserversOk : (ℕ → ℕ) → ℕ → (ℕ → ℕ) → (ℕ → ℕ) → Type 0
ObserversOk observers places watch home = (q : ℕ) → q < places → observers q ≡ watched watch (home q)

-- the turn word; while nobody has the turn, the last tail is open in the current place; while it is open, nothing is prepared
pub record TurnOk (word turn called shut prep now last : ℕ) : Type 0 where
  pub word_is : word ≡ called
  pub idle : turn ≡ 0 → (called ≡ 0) × (shut ≡ 0) × (prep ≡ 0) × (now ≡ last)
  pub calm : shut ≡ 0 → prep ≡ 0
  pub bit : shut ≤ 1

-- the first words of a place in preparation, in their order: length, start, done, segment, numbers
pub record PrepOk (start len done number : ℕ → ℕ) (num : ℕ → ℕ → ℕ) (f : Form) (segs : Segs) (low last put : ℕ) (home untold watch : ℕ → ℕ) (prep : ℕ) (plan : Seg) (written : ℕ) : Type 0 where
  pub inside : (q : ℕ) → prep ≡ suc q → (q < f.places) × (plan.place ≡ q) × (plan.start ≡ put) × (2 ≤ plan.len) × (plan.len ≤ f.slots)
  pub lengths : (q : ℕ) → prep ≡ suc q → IsSegmentLength f.first_len plan.len × FollowsLength f (segs last).len plan.len
  -- it is no place of the chain, and no take in it is unfinished; nobody watches it
  pub apart : (q k : ℕ) → prep ≡ suc q → home q ≡ suc k → (k < low) × (watch k ≡ 0)
  pub no_take : (q : ℕ) → prep ≡ suc q → untold q ≡ 0
  -- the last segment is full
  pub full : (q : ℕ) → prep ≡ suc q → (segs last).start + (segs last).len ≤ put
  pub len_is : (q : ℕ) → prep ≡ suc q → 0 < written → len q ≡ plan.len
  pub start_is : (q : ℕ) → prep ≡ suc q → 1 < written → start q ≡ plan.start
  pub done_is : (q : ℕ) → prep ≡ suc q → 2 < written → done q ≡ 0
  pub number_is : (q : ℕ) → prep ≡ suc q → 3 < written → number q ≡ suc last
  pub num_is : (q i : ℕ) → prep ≡ suc q → i < plan.len → 4 + i < written → (p : ℕ) × (num q i ≡ 2 * p) × (plan.start ≤ p) × (p < plan.start + plan.len) × (p % plan.len ≡ i)

-- a published number that stands in no slot of a segment is of an item that was taken
abbrev pub StraysOk : (ℕ → ℕ → ℕ) → ℕ → Segs → (ℕ → ℕ) → ℕ → Type 0
StraysOk num taken segs home prep = (q i p : ℕ) → num q i ≡ 2 * p + 1 → (p < taken) ⊎ ((k : ℕ) × (home q ≡ suc k) × (prep ≢ suc q) × (i < (segs k).len))

abbrev pub BarsOk : (ℕ → ℕ) → ℕ → Type 0
BarsOk bar taken = (k : ℕ) → bar k ≤ taken

-- the rule, but for what it says of the views
pub record Words (f : Form) (m : Memory) (g : Ghosts) : Type 0 where
  pub counts : Counts f (m Head) g.log g.values g.putters g.put g.taken
  pub calls : Calls f g.log g.made g.paid
  pub chain : ChainOk g.segs g.low g.last g.taken g.put
  pub ranges : Ranges f g.segs g.last
  pub homes : HomeOk g.segs g.low g.last g.home
  pub tails : TailsOk (λ q. m (Tail q)) f.places g.segs g.last g.put g.shut g.home
  pub links : LinksOk (m First) (m Current) (λ q. m (Next q)) g.segs g.low g.now g.linked g.last g.home g.prep
  pub places : PlacesOk (λ q. m (Start q)) (λ q. m (Length q)) (λ q. m (Segment q)) g.segs g.home g.prep
  pub nexts : (q : ℕ) → q < f.places → m (Next q) < f.places
  pub sizes : SizesOk (λ q. m (Length q)) f
  pub slots : SlotsOk (λ q i. m (Number q i)) (λ q i. m (Item q i)) g.values g.taken g.put g.segs g.last g.home g.cells g.prep
  pub strays : StraysOk (λ q i. m (Number q i)) g.taken g.segs g.home g.prep
  pub dones : DonesOk (λ q. m (Done q)) g.untold g.segs g.last g.put g.taken g.home g.prep
  pub observers : ObserversOk (λ q. m (Observers q)) f.places g.watch g.home
  pub bars : BarsOk g.bar g.taken
  pub turns : TurnOk (m Turn) g.turn g.called g.shut g.prep g.now g.last
  pub preps : PrepOk (λ q. m (Start q)) (λ q. m (Length q)) (λ q. m (Done q)) (λ q. m (Segment q)) (λ q i. m (Number q i)) f g.segs g.low g.last g.put g.home g.untold g.watch g.prep g.plan g.written

-- The parts on a view.

-- the place q shows the segment k, and i is a slot of it
abbrev pub Shows : Ghosts → ℕ → ℕ → ℕ → Type 0
Shows g q i k = (g.home q ≡ suc k) × (g.prep ≢ suc q) × (i < (g.segs k).len)

-- what was noted of the head: it is exact for a pass without other callers
abbrev pub HeadNote : Ghosts → Type 0 → Option ℕ → Type 0
HeadNote g whole None = Unit {0}
HeadNote g whole (Some h) = (h ≤ g.taken) × (whole → h ≡ g.taken)

-- of an open tail, the length of its place, and its slot
pub record TailSeen (g : Ghosts) (whole : Type 0) (o : OpenTail) : Type 0 where
  pub segment : ℕ
  pub there : TailNote g.segs g.last g.put o.place o.position segment
  pub exact : whole → o.position ≡ g.put
  pub sized : (n : ℕ) → o.length ≡ Some n → (o.position < g.put) ⊎ (n ≡ (g.segs segment).len)
  pub numbered : (n : ℕ) → o.number ≡ Some n → (o.position < g.put) ⊎ (n ≡ segment)
  pub slot : (n : ℕ) → o.length ≡ Some n → o.fits ≡ true → (o.position < g.put) ⊎ (g.cells o.place (o.position % n) ≡ (o.position, free))
  pub turned : o.full ≡ true → (o.position < g.put) ⊎ ((g.segs segment).start + (g.segs segment).len ≤ o.position)

abbrev pub TailFact : Ghosts → Type 0 → Option OpenTail → Type 0
TailFact g whole None = Unit {0}
TailFact g whole (Some o) = TailSeen g whole o

-- of a published position, and its item
pub record FrontSeen (g : Ghosts) (o : Front) : Type 0 where
  pub below : o.position ≤ g.taken
  pub slot : (o.position < g.taken) ⊎ ((k : ℕ) × (g.low ≤ k) × (k ≤ g.last) × ((g.segs k).place ≡ o.place) × (o.slot < (g.segs k).len) × (g.cells o.place o.slot ≡ (o.position, full)))
  pub item : (y : ℕ) → o.item ≡ Some y → (o.position < g.taken) ⊎ (get_elem? g.values o.position ≡ some (y ∷ []))

abbrev pub FrontFact : Ghosts → Option Front → Type 0
FrontFact g None = Unit {0}
FrontFact g (Some o) = FrontSeen g o

-- The place p is none of the chain.
abbrev pub OutOfChain : Ghosts → ℕ → Type 0
OutOfChain g p = (k : ℕ) → g.home p ≡ suc k → k < g.low

-- What the holder of the turn knows of the chain, by what it has read of it.

-- a place is no current one, and shows no segment, or one with this end and start; once it is spent it has left the chain, and no take in it is unfinished
pub record CandidateSeen (g : Ghosts) (c : Candidate) : Type 0 where
  pub ends : (k : ℕ) → g.home c.place ≡ suc k → (k < g.last) × ((g.segs (suc k)).start ≡ c.end)
  pub starts : IfSome c.start (λ s. (k : ℕ) → g.home c.place ≡ suc k → g.prep ≢ suc c.place → (g.segs k).start ≡ s)
  pub spent : c.spent ≡ true → OutOfChain g c.place × (g.untold c.place ≡ 0)

abbrev pub LengthAt : Ghosts → ℕ × ℕ → Type 0
LengthAt g x = (k : ℕ) → g.home x.0 ≡ suc k → g.prep ≢ suc x.0 → x.1 ≡ (g.segs k).len

abbrev pub NextAt : Ghosts → ℕ × ℕ → Type 0
NextAt g x = (k : ℕ) → g.low ≤ k → k < g.now → k < g.last → (g.segs k).place ≡ x.0 → x.1 ≡ (g.segs (suc k)).place

abbrev pub IsPast : Ghosts → ℕ → Type 0
IsPast g h = (h ≤ g.taken) × ((g.low ≡ g.now) ⊎ ((g.low < g.last) × (h < (g.segs (suc g.low)).start)))

pub record ScanSeen (g : Ghosts) (o : Scan) : Type 0 where
  pub first : IfSome o.first (λ p. (g.segs g.low).place ≡ p)
  pub current : IfSome o.current (λ p. (g.now ≤ g.last) × ((g.segs g.now).place ≡ p))
  pub length : IfSome o.length (LengthAt g)
  pub next : IfSome o.next (NextAt g)
  pub past : IfSome o.past (IsPast g)
  pub inside : IfSome o.inside (λ h. h < end_of g.segs g.last g.put g.low)
  pub moved : IfSome o.moved (λ e. e ≤ (g.segs g.low).start)
  pub candidate : IfSome o.candidate (CandidateSeen g)

pub record NotesOk (g : Ghosts) (j : ℕ) (whole : Type 0) (o : Notes) : Type 0 where
  pub head : HeadNote g whole o.head
  pub gone : IfSome o.gone (λ h. h < g.taken)
  pub tail : TailFact g whole o.tail
  -- no segment was opened since, where nobody else can open one
  pub newest : whole ⊎ (g.turn ≡ suc j) → IfSome o.tail (λ t. (g.segs g.last).place ≡ t.place)
  pub front : FrontFact g o.front
  pub scan : g.turn ≡ suc j → ScanSeen g o.scan

abbrev pub LeaveOk : Ghosts → ℕ → ℕ → ℕ → ℕ → Leave → Type 0
LeaveOk g j p q i Unread = g.cells q i ≡ (p, reading j)
LeaveOk g j p q i Granted = (g.cells q i ≡ (p, reading j)) × ((k : ℕ) → g.home q ≡ suc k → p < g.bar k)
LeaveOk g j p q i (Measured n) = (g.cells q i ≡ (p, reading j)) × ((k : ℕ) → g.home q ≡ suc k → (p < g.bar k) × (n ≡ (g.segs k).len))
LeaveOk g j p q i Refused = Unit {0}
LeaveOk g j p q i Released = Unit {0}

-- what the seat j has in hand, where active says that it holds the number of its caller. The place shows the segment of the position
abbrev pub HandOk : Ghosts → ℕ → Type 0 → ℕ → Hand → Type 0
HandOk g j active c Nothing = Unit {0}
HandOk g j active c (Reserved p q i x) = active × ((k : ℕ) × Shows g q i k) × (g.cells q i ≡ (p, writing j)) × (get_elem? g.values p ≡ some (x ∷ [])) × (get_elem? g.putters p ≡ some c)
HandOk g j active c (Stored p q i x) = active × ((k : ℕ) × Shows g q i k) × (g.cells q i ≡ (p, stored j)) × (get_elem? g.values p ≡ some (x ∷ [])) × (get_elem? g.putters p ≡ some c)
HandOk g j active c (Taking p q i leave) = active × ((k : ℕ) × Shows g q i k) × (p < g.taken) × LeaveOk g j p q i leave

-- the place p is none of the chain, no take in it is unfinished, and nobody watches it
abbrev pub IsFree : Ghosts → ℕ → Type 0
IsFree g p = (p ≢ (g.segs g.last).place) × OutOfChain g p × ((k : ℕ) → g.home p ≡ suc k → g.watch k ≡ 0) × (g.untold p ≡ 0)

abbrev pub HasTurn : Ghosts → ℕ → Type 0 → ℕ → Type 0
HasTurn g j active c = (g.turn ≡ suc j) × (g.called ≡ suc c) × active

abbrev pub StageOk : Ghosts → ℕ → Type 0 → ℕ → Stage → Type 0
StageOk g j active c Away = g.turn ≢ suc j
StageOk g j active c Plain = HasTurn g j active c × (g.shut ≡ 0) × (g.prep ≡ 0) × (g.now ≡ g.last)
StageOk g j active c (Closed q t whole_turn) = HasTurn g j active c × (g.shut ≡ 1) × (g.prep ≡ 0) × (g.now ≡ g.last) × (g.put ≡ t) × ((g.segs g.last).place ≡ q)
    × (whole_turn ≡ true → (g.segs g.last).start + (g.segs g.last).len ≤ t)
StageOk g j active c (Found q t p) = HasTurn g j active c × (g.shut ≡ 1) × (g.prep ≡ 0) × (g.now ≡ g.last) × (g.put ≡ t) × ((g.segs g.last).place ≡ q)
    × ((g.segs g.last).start + (g.segs g.last).len ≤ t) × IsFree g p
StageOk g j active c (Preparing d q s n w) = HasTurn g j active c × (g.shut ≡ 1) × (g.prep ≡ suc q) × (g.now ≡ g.last) × (g.put ≡ s) × (g.plan ≡ record { place = q; start = s; len = n }) × (g.written ≡ w) × ((g.segs g.last).place ≡ d)
StageOk g j active c (Opened d q t) = HasTurn g j active c × (g.shut ≡ 0) × (g.prep ≡ 0) × (suc g.now ≡ g.last) × (g.linked ≡ g.now) × ((g.segs g.last).place ≡ q) × ((g.segs g.last).start ≡ t) × ((g.segs g.now).place ≡ d)
StageOk g j active c (Linked q t) = HasTurn g j active c × (g.shut ≡ 0) × (g.prep ≡ 0) × (suc g.now ≡ g.last) × (g.linked ≡ g.last) × ((g.segs g.last).place ≡ q) × ((g.segs g.last).start ≡ t)
StageOk g j active c (Observing q t b n p) = HasTurn g j active c × (g.shut ≡ 1) × (g.prep ≡ 0) × (g.now ≡ g.last) × (g.put ≡ t) × ((g.segs g.last).place ≡ q)
    × (g.low ≡ b) × (b ≤ n) × (n ≤ g.last) × ((g.segs n).place ≡ p)

-- the slot i of the first place of a window was read as x: a position of the window that is published there stays so
abbrev pub ShownAt : Ghosts → Window → ℕ × ℕ → Type 0
ShownAt g w y = (p : ℕ) → y.1 ≡ 2 * p + 1 → w.head ≤ p → p < w.tail → y.0 < (g.segs w.begin).len → ((g.cells ((g.segs w.begin).place) y.0).0 ≡ p) × (up (g.cells ((g.segs w.begin).place) y.0).1 ≡ 1) × (g.bar w.begin ≤ p)

-- a window: its places show its segments, and each of its positions lies in one of them and is not released
pub record WindowOk (g : Ghosts) (w : Window) : Type 0 where
  pub some : w.begin < w.end
  pub opened : (k : ℕ) → in_range k (Some w) ≡ true → (k ≤ g.last) × (g.home ((g.segs k).place) ≡ suc k) × (g.prep ≢ suc ((g.segs k).place)) × (k ≤ g.linked)
  pub behind : w.tail ≤ g.put
  pub first : w.begin < w.end → (g.segs w.begin).place ≡ w.first
  pub last : (k : ℕ) → w.end ≡ suc k → w.begin ≤ k → (g.segs k).place ≡ w.last
  pub after : IfSome w.after (λ p. suc w.begin < w.end → p ≡ (g.segs (suc w.begin)).place)
  pub ends : IfSome w.ends (λ e. suc w.begin < w.end → (g.segs (suc w.begin)).start ≡ e)
  pub length : IfSome w.length (λ n. n ≡ (g.segs w.begin).len)
  pub shown : IfSome w.shown (ShownAt g w)
  pub there : (p : ℕ) → w.head ≤ p → p < w.tail
      → (k i : ℕ) × (in_range k (Some w) ≡ true) × ((g.segs k).start ≤ p) × (p < end_of g.segs g.last g.put k) × (i < (g.segs k).len) × (p % (g.segs k).len ≡ i) × ((g.cells ((g.segs k).place) i).0 ≡ p) × (g.bar k ≤ p)

abbrev pub WindowFact : Ghosts → Option Window → Type 0
WindowFact g None = Unit {0}
WindowFact g (Some w) = WindowOk g w

-- a pass with a window holds its own number
abbrev pub WindowOwned : Type 0 → Option Window → Type 0
WindowOwned active None = Unit {0}
WindowOwned active (Some w) = active

-- the slot that is in hand
abbrev pub LeaveHas : Leave → Type 0
LeaveHas Unread = Unit {0}
LeaveHas Granted = Unit {0}
LeaveHas (Measured n) = Unit {0}
LeaveHas Refused = ⊥
LeaveHas Released = ⊥

abbrev pub InHand : Hand → ℕ → ℕ → Type 0
InHand Nothing q i = ⊥
InHand (Reserved p q' i' x) q i = (q' ≡ q) × (i' ≡ i)
InHand (Stored p q' i' x) q i = (q' ≡ q) × (i' ≡ i)
InHand (Taking p q' i' leave) q i = (q' ≡ q) × (i' ≡ i) × LeaveHas leave

-- what a seat that took in another has seen goes on from what either had seen
abbrev pub JointFact : List EntryMark → Option Joint → Type 0
JointFact seen joint = IfSome joint (λ x. Meet x.first_held x.second_held x.first x.second seen)

pub record ViewOk (f : Form) (g : Ghosts) (j : ℕ) (v : View) : Type 0 where
  pub of_object : v.object ≡ object_of f
  pub of_callers : v.callers ≡ f.callers
  pub holds : Holder f.callers g.log g.made g.owner j v.held v.made v.seen
  pub joint : JointFact v.seen v.joint
  pub notes : NotesOk g j (IsWhole v) v.notes
  pub hand : HandOk g j (HasNumber v.held v.caller) v.caller v.hand
  pub ties : (q i : ℕ) → holder (g.cells q i).1 ≡ suc j → InHand v.hand q i
  pub stage : StageOk g j (HasNumber v.held v.caller) v.caller v.stage
  pub window : WindowFact g v.window
  pub owned : WindowOwned (HasNumber v.held v.caller) v.window

-- the rule of the views
pub record Views (f : Form) (g : Ghosts) (views : List View) : Type 0 where
  pub each : (j : ℕ) (v : View) → get_elem? views j ≡ some v → ViewOk f g j v
  pub paid_is : total paid_of views ≡ g.paid
  pub untold_is : (q : ℕ) → total (takes_in q) views ≡ g.untold q
  pub watch_is : (k : ℕ) → total (watches k) views ≡ g.watch k
  -- whoever holds a slot, or the turn, has a view; and some seat has seen all
  pub seated : (q i j : ℕ) → holder (g.cells q i).1 ≡ suc j → (v : View) × (get_elem? views j ≡ some v)
  pub turned : (j : ℕ) → g.turn ≡ suc j → (v : View) × (get_elem? views j ≡ some v)
  pub all : (j : ℕ) × (v : View) × (get_elem? views j ≡ some v) × (v.seen ≡ g.log)

pub record Kept (f : Form) (m : Memory) (views : List View) : Type 0 where
  pub g : Ghosts
  pub words : Words f m g
  pub seats : Views f g views

pub record Rule (f : Form) (s : State ℕ View) : Type 0 where
  pub wide : length s.words ≡ words_of f.places f.slots
  pub shape : IsShape f
  pub kept : Kept f (memory f.places f.slots s.words) s.views
