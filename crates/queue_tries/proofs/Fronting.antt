-- What loads of a slot, of a tail and of the head tell a dequeue or a peek.
use Rattle.std.proofs.Common.{◌≡◌, ◌≢◌, ℕ, ◌+◌, ◌*◌, ◌/◌, ◌%◌, ◌<◌, ◌≤◌, ⊎_elim, eqb, ltb, cond, not, ◌&&◌, Bool, true, false, List, [], ◌++◌, sym, refl, ap, ap₂, ◌∙◌, subst, arith, append_assoc, eq-eqb, ne_eqb}
use Rattle.std.specs.Prelude.{Contains, Option, None, Some, IfSome}
use Rattle.std.proofs.lemmas.Bool.{lt-ltb, cases_eq}
use Rattle.std.proofs.lemmas.List.Elements.{Contains-append_left, Contains-append_right}
use Rattle.ho_model.specs.declared.marks.EntryMark.{EntryMark}
use Rattle.seg_rule.specs.declared.word.QueueWord.TheVariants.{Tail, Number}
use Rattle.seg_rule.specs.declared.view.View.{View}
use Rattle.seg_rule.specs.declared.view.Notes.{Notes}
use Rattle.seg_rule.specs.declared.view.Scan.{Scan}
use Rattle.seg_rule.specs.declared.view.Obstacle.{Obstacle}
use Rattle.seg_rule.specs.declared.view.Obstacle.TheVariants.{NotPublished, Unpublished}
use Rattle.seg_rule.specs.declared.view.Hand.TheVariants.{Nothing}
use Rattle.seg_rule.specs.declared.view.Stage.{Stage}
use Rattle.seg_rule.specs.declared.view.Stage.TheVariants.{Away, Plain}
use Rattle.ho_base.specs.Marks.{number_priority}
use Rattle.ho_model.specs.declared.objects.Object.{Object}
use Rattle.passes.specs.Numbers.{HasNumber, HasAll}
use Rattle.passes.specs.Seen.{SeesOthers, IsLawful}
use Rattle.seg_rule.specs.Loads.{loaded, told, obstacles, not_free_obstacles, not_published_obstacles, unpublished_obstacles, met_if, is_read, is_slot_of, is_below, is_front_slot, head_if, has_turn, is_free_by, open_scan, closed_scan}
use Rattle.seg_rule.specs.Tells.{IsInFlight, Sees, sees_in_flight, is_idle}
use Rattle.seg_rule.specs.Entering.{EntersEmpty}
use Rattle.seg_rule.specs.Plays.{Reads, Decided}
use Rattle.queue_tries.specs.Walks.{GoesOn}
use Rattle.queue_tries.specs.Fronts.{sized, IsBare, SeesFlight, IsNotEmpty, SeesTail}
use Rattle.queue_tries.proofs.Walks.{alone, goes_on, goes_quiet, told_goes, reads_told}

both : (a b : Bool) → a ≡ true → b ≡ true → (a && b) ≡ true
both a b x y = ap₂ (λ (c d : Bool). c && d) x y

met_there : (b : Bool) (o : Obstacle) → b ≡ true → Contains (met_if b o) o
met_there b o is = subst (λ (c : Bool). Contains (met_if c o) o) (sym is) (0, omega arith, refl)

-- The head in flight, seen from an earlier point of the call, and at a later one.

pub in_flight_of : (v w : View) (head : ℕ) (history : List EntryMark) → w.callers ≡ v.callers → w.held ≡ v.held → IsInFlight v head history → IsInFlight w head history
in_flight_of v w head history callers held f = record {
  putter = f.putter;
  enqueued = f.enqueued;
  first = f.first;
  not_held = subst (λ (z : List Bool). ¬ HasNumber z f.putter) (sym held) f.not_held;
  not_whole = subst (λ (z : ℕ × List Bool). ¬ HasAll z.0 z.1) (λ i. (sym callers i, sym held i)) f.not_whole;
}

pub flight_after : (v w u : View) (first : List Obstacle) → GoesOn v w first → SeesFlight w u → SeesFlight v u
flight_after v w u first g f = let k = g.keeps in record {
  object = f.object ∙ k.object;
  callers = f.callers ∙ k.callers;
  caller = f.caller ∙ k.caller;
  held = f.held ∙ k.held;
  made = f.made ∙ k.made;
  joint = f.joint;
  hand = f.hand ∙ g.hand;
  window = f.window ∙ k.window;
  seen = subst (λ (z : List Bool × List EntryMark). SeesOthers z.0 z.1 u.seen) (λ i. (k.held i, k.seen i)) f.seen;
  lawful = subst (λ (z : Object × ℕ). IsLawful number_priority z.0 z.1 u.seen) (λ i. (k.object i, k.callers i)) f.lawful;
  read = first ++ f.read;
  met = f.met ∙ (ap (λ (z : List Obstacle). z ++ f.read) k.met ∙ append_assoc v.met first f.read);
  place = f.place;
  head = f.head;
  unpublished = Contains-append_right first f.read (Unpublished f.place f.head (2 * f.head)) f.unpublished;
  flight = in_flight_of w v f.head u.seen (sym k.callers) (sym k.held) f.flight;
}

pub flight_left : (v w u : View) (notes : Notes) (stage : Stage) → SeesFlight v w → u ≡ record w { notes = notes; stage = stage } → SeesFlight v u
flight_left v w u notes stage f is = subst (λ (z : View). SeesFlight v z) (sym is) record {
  object = f.object;
  callers = f.callers;
  caller = f.caller;
  held = f.held;
  made = f.made;
  joint = f.joint;
  hand = f.hand;
  window = f.window;
  seen = f.seen;
  lawful = f.lawful;
  read = f.read;
  met = f.met;
  place = f.place;
  head = f.head;
  unpublished = f.unpublished;
  flight = f.flight;
}

-- The slot of the head, by the length of the place.
module _ (place head slot length x : ℕ) (v m w : View) (left : m ≡ sized v place length) (positive : 0 < length) (slot_is : slot ≡ head % length) (known : v.notes.head ≡ Some head) (is_first : v.notes.scan.first ≡ Some place) (hand : v.hand ≡ Nothing) (window : v.window ≡ None) (read : Reads (Number place slot) x m w) where
  sized_goes : GoesOn v m []
  sized_goes = goes_quiet v m (sized v place length).notes v.stage left

  m_head : m.notes.head ≡ Some head
  m_head = ap (λ (z : View). z.notes.head) left ∙ known

  m_hand : m.hand ≡ Nothing
  m_hand = ap (λ (z : View). z.hand) left ∙ hand

  first_there : is_read m.notes.scan.first place ≡ true
  first_there = ap (λ (z : Option ℕ). is_read z place) (ap (λ (z : View). z.notes.scan.first) left ∙ is_first) ∙ eq-eqb place place refl

  slot_there : is_slot_of place slot head m.notes.scan.length ≡ true
  slot_there = ap (λ (z : Option (ℕ × ℕ)). is_slot_of place slot head z) (ap (λ (z : View). z.notes.scan.length) left)
      ∙ both (eqb place place) (ltb 0 length && eqb (head % length) slot) (eq-eqb place place refl) (both (ltb 0 length) (eqb (head % length) slot) (lt-ltb 0 length positive) (eq-eqb (head % length) slot (sym slot_is)))

  pub bare : v.stage ≡ Away → x ≢ 2 * head + 1 → IsBare v head w
  bare away other =
      let none : sees_in_flight (Number place slot) x m ≡ false = (λ i. is_idle (m_hand i) && (is_front_slot (has_turn ((ap (λ (z : View). z.stage) left ∙ away) i)) place slot (m_head i) m.notes.scan && is_free_by (m_head i) x)) in
      let is : w ≡ told (Number place slot) x m = reads_told (Number place slot) x m w read refl none in
      let all = obstacles m.stage (Number place slot) x m.notes in
      let its : Contains (not_published_obstacles place slot x m.notes.head m.notes.scan) (NotPublished place head x) =
      subst (λ (z : Option ℕ). Contains (not_published_obstacles place slot x z m.notes.scan) (NotPublished place head x)) (sym m_head)
      (met_there _ (NotPublished place head x) (both (is_read m.notes.scan.first place) (is_slot_of place slot head m.notes.scan.length && not (eqb x (2 * head + 1))) first_there (both (is_slot_of place slot head m.notes.scan.length) (not (eqb x (2 * head + 1))) slot_there (ap not (ne_eqb x (2 * head + 1) other))))) in record {
        read = all;
        goes = goes_on v m w [] all sized_goes (told_goes (Number place slot) x m w is (ap (λ (z : View). z.window) left ∙ window) m_hand);
        head_is = ap (λ (z : View). z.notes.head) is ∙ m_head;
        bare = (
          place,
          head,
          x,
          other,
          Contains-append_right (not_free_obstacles place slot x m.notes.scan m.notes.tail) (not_published_obstacles place slot x m.notes.head m.notes.scan ++ unpublished_obstacles (has_turn m.stage) place slot x m.notes.head m.notes.scan) (NotPublished place head x)
              (Contains-append_left (not_published_obstacles place slot x m.notes.head m.notes.scan) (unpublished_obstacles (has_turn m.stage) place slot x m.notes.head m.notes.scan) (NotPublished place head x) its),
        );
      }

  module _ (plain : v.stage ≡ Plain) (inside : v.notes.scan.inside ≡ Some head) (free : x ≡ 2 * head) where
    m_turn : has_turn m.stage ≡ true
    m_turn = ap has_turn (ap (λ (z : View). z.stage) left ∙ plain)

    front_there : is_front_slot (has_turn m.stage) place slot (Some head) m.notes.scan ≡ true
    front_there = both (has_turn m.stage) _ m_turn (both (is_read m.notes.scan.inside head) _ (ap (λ (z : Option ℕ). is_read z head) (ap (λ (z : View). z.notes.scan.inside) left ∙ inside) ∙ eq-eqb head head refl)
        (both (is_read m.notes.scan.first place) (is_slot_of place slot head m.notes.scan.length) first_there slot_there))

    is_in_flight : sees_in_flight (Number place slot) x m ≡ true
    is_in_flight = ap (λ (z : Option ℕ). is_idle m.hand && (is_front_slot (has_turn m.stage) place slot z m.notes.scan && is_free_by z x)) m_head
        ∙ both (is_idle m.hand) _ (ap is_idle m_hand) (both (is_front_slot (has_turn m.stage) place slot (Some head) m.notes.scan) (eqb x (2 * head)) front_there (eq-eqb x (2 * head) free))

    pub flight : SeesFlight v w
    flight =
        let s = subst (λ (b : Bool). Sees b (loaded (Number place slot) x m) w) is_in_flight read.sees in
        let all = obstacles m.stage (Number place slot) x m.notes in
        let is : w ≡ record m { seen = s.0; joint = None; met = m.met ++ all; notes = (told (Number place slot) x m).notes } = s.4 ∙ ap (λ (z : View). record z { seen = s.0; joint = None }) (alone (Number place slot) x m (ap (λ (z : View). z.window) left ∙ window)) in
        let its : Contains (unpublished_obstacles (has_turn m.stage) place slot x m.notes.head m.notes.scan) (Unpublished place head (2 * head)) =
        subst (λ (z : Option ℕ). Contains (unpublished_obstacles (has_turn m.stage) place slot x z m.notes.scan) (Unpublished place head (2 * head))) (sym m_head)
        (subst (λ (n : ℕ). Contains (met_if (is_front_slot (has_turn m.stage) place slot (Some head) m.notes.scan && eqb n (2 * head)) (Unpublished place head n)) (Unpublished place head (2 * head))) (sym free)
        (met_there _ (Unpublished place head (2 * head)) (both (is_front_slot (has_turn m.stage) place slot (Some head) m.notes.scan) (eqb (2 * head) (2 * head)) front_there (eq-eqb (2 * head) (2 * head) refl)))) in
        let seen : IsInFlight m head s.0 = in_flight_of (loaded (Number place slot) x m) m head s.0 refl refl (subst (λ (z : Option ℕ). IfSome z (λ h. IsInFlight (loaded (Number place slot) x m) h s.0)) m_head s.3) in
        flight_after v m w [] sized_goes record {
          object = ap (λ (z : View). z.object) is;
          callers = ap (λ (z : View). z.callers) is;
          caller = ap (λ (z : View). z.caller) is;
          held = ap (λ (z : View). z.held) is;
          made = ap (λ (z : View). z.made) is;
          joint = ap (λ (z : View). z.joint) is;
          hand = ap (λ (z : View). z.hand) is;
          window = ap (λ (z : View). z.window) is;
          seen = subst (λ (z : List EntryMark). SeesOthers m.held m.seen z) (sym (ap (λ (z : View). z.seen) is)) s.1;
          lawful = subst (λ (z : List EntryMark). IsLawful number_priority m.object m.callers z) (sym (ap (λ (z : View). z.seen) is)) s.2;
          read = all;
          met = ap (λ (z : View). z.met) is;
          place = place;
          head = head;
          unpublished = Contains-append_right (not_free_obstacles place slot x m.notes.scan m.notes.tail) _ (Unpublished place head (2 * head))
              (Contains-append_right (not_published_obstacles place slot x m.notes.head m.notes.scan) (unpublished_obstacles (has_turn m.stage) place slot x m.notes.head m.notes.scan) (Unpublished place head (2 * head)) its);
          flight = subst (λ (z : List EntryMark). IsInFlight m head z) (sym (ap (λ (z : View). z.seen) is)) seen;
        }

-- A tail that is not open at the head.
module _ (place head x : ℕ) (v w : View) (known : v.notes.head ≡ Some head) (hand : v.hand ≡ Nothing) (window : v.window ≡ None) (other : x ≢ 2 * head) (read : Reads (Tail place) x v w) where
  is : w ≡ told (Tail place) x v
  is = reads_told (Tail place) x v w read refl refl

  same_head : (b : Bool) (h o : Option ℕ) → h ≡ Some head → o ≡ Some head → head_if b h o ≡ Some head
  same_head true h o a b = a
  same_head false h o a b = b

  its_scan : (b : Bool) → eqb (x % 2) 0 ≡ b → w.notes.scan ≡ cond b (open_scan place (x / 2) v.notes.head v.notes.scan) (closed_scan place (x / 2) v.notes.head v.notes.scan)
  its_scan b parity = ap (λ (z : View). z.notes.scan) is ∙ ap (λ (c : Bool). cond c (open_scan place (x / 2) v.notes.head v.notes.scan) (closed_scan place (x / 2) v.notes.head v.notes.scan)) parity

  pub not_empty : IsNotEmpty v place head w
  not_empty = record {
    read = obstacles v.stage (Tail place) x v.notes;
    goes = told_goes (Tail place) x v w is window hand;
    head_is = ap (λ (z : View). z.notes.head) is ∙ known;
    first = ⊎_elim
        (λ (even : x % 2 ≡ 0). ap (λ (z : Scan). z.first) (its_scan true (eq-eqb (x % 2) 0 even)))
        (λ (odd : x % 2 ≢ 0). ap (λ (z : Scan). z.first) (its_scan false (ne_eqb (x % 2) 0 odd)))
        (cases_eq (x % 2) 0);
    inside = λ plain is_first current is_current before. ⊎_elim
        (λ (even : x % 2 ≡ 0).
        let least : head ≤ x / 2 = subst (λ (z : Option ℕ). IfSome z (λ h. (t : ℕ) → x ≡ 2 * t → h ≤ t)) known read.told.head (x / 2) (omega arith) in
        let above : (is_read v.notes.scan.first place && is_below v.notes.head (x / 2)) ≡ true = both (is_read v.notes.scan.first place) (is_below v.notes.head (x / 2)) (ap (λ (z : Option ℕ). is_read z place) is_first ∙ eq-eqb place place refl)
        (ap (λ (z : Option ℕ). is_below z (x / 2)) known ∙ lt-ltb head (x / 2) (omega arith)) in
        ap (λ (z : Scan). z.inside) (its_scan true (eq-eqb (x % 2) 0 even)) ∙ (ap (λ (b : Bool). head_if b v.notes.head v.notes.scan.inside) above ∙ known))
        (λ (odd : x % 2 ≢ 0).
        ap (λ (z : Scan). z.inside) (its_scan false (ne_eqb (x % 2) 0 odd))
        ∙ same_head _ v.notes.head v.notes.scan.inside known (before (λ (same : place ≡ current). odd (read.told.current plain (is_current ∙ ap Some (sym same))))))
        (cases_eq (x % 2) 0);
  }

pub tail_seen : (place head x : ℕ) (peek : Bool) (v w : View) → v.notes.head ≡ Some head → v.hand ≡ Nothing → v.window ≡ None → Decided (x ≡ 2 * head) (EntersEmpty v head peek w) (Reads (Tail place) x v w) → SeesTail v place head peek (eqb x (2 * head)) w
tail_seen place head x peek v w known hand window d = ⊎_elim
    (λ (same : x ≡ 2 * head). subst (λ (b : Bool). SeesTail v place head peek b w) (sym (eq-eqb x (2 * head) same)) (d.0 same))
    (λ (other : x ≢ 2 * head). subst (λ (b : Bool). SeesTail v place head peek b w) (sym (ne_eqb x (2 * head) other)) (not_empty place head x v w known hand window other (d.1 other)))
    (cases_eq x (2 * head))
