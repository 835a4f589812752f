-- The load that begins a call: nothing is noted any more, and a call that was counted without an entry is given up.
use Rattle.std.proofs.Common.{◌≡◌, ℕ, ◌+◌, ◌-◌, ◌≤◌, inr, false, List, set, refl, arith, le_refl}
use mathlib.Core.Option.{some}
use lib.ListN.{get_elem?}
use Rattle.seg_rule.specs.declared.form.Form.{Form}
use Rattle.seg_rule.specs.declared.view.View.{View}
use Rattle.seg_rule.specs.Words.{Memory}
use Rattle.seg_rule.specs.Rule.{Ghosts, IsWhole, ViewOk, Kept, paid_of, flag}
use Rattle.seg_rule.specs.Rely.{Grows}
use Rattle.seg_rule.specs.Steps.{blank}
use Rattle.seg_rule.proofs.Calm.{calm}
use Rattle.seg_rule.proofs.Frames.{kept_after}
use Rattle.seg_rule.proofs.Stays.{blank_ok, window_fact_stays}
use Rattle.seg_rule.proofs.Sums.{total_part}

module _ (f : Form) (m : Memory) (views : List View) (id : ℕ) (v : View) (k : Kept f m views) (at : get_elem? views id ≡ some v) where
  abbrev g : Ghosts
  g = k.g

  abbrev ok : ViewOk f g id v
  ok = k.seats.each id v at

  abbrev g' : Ghosts
  g' = record g { paid = g.paid - flag v.paid }

  grows : Grows g g'
  grows = calm g g.log g.made g.owner (g.paid - flag v.paid) g.now g.linked g.untold g.watch g.turn g.called g.shut g.prep g.plan g.written (le_refl _)

  pub begins_kept : Kept f m (set views id (record v { notes = blank; paid = false }))
  begins_kept =
      let part : flag v.paid ≤ g.paid = (let a = total_part paid_of views id v at in let b = k.seats.paid_is in omega arith) in
      let w = k.words in
      kept_after f m m views k id v (record v { notes = blank; paid = false }) g' at
      record {
        counts = w.counts;
        calls = record { sized = w.calls.sized; small = w.calls.small; below = w.calls.below; few = (let a = w.calls.few in omega arith); each = w.calls.each };
        chain = w.chain;
        ranges = w.ranges;
        homes = w.homes;
        tails = w.tails;
        links = w.links;
        places = w.places;
        sizes = w.sizes;
        nexts = w.nexts;
        slots = w.slots;
        strays = w.strays;
        dones = w.dones;
        observers = w.observers;
        bars = w.bars;
        turns = w.turns;
        preps = w.preps;
      }
      record {
        rely = λ j u other there x. record {
          grows = grows;
          holds = λ h. h;
          still = λ a. (refl, refl, refl);
          hand_place = λ a n p e s. (e, s);
          window_place = λ a n p e s. (e, s, refl);
          held = λ a b e. refl;
          given = λ a b e. e;
          turned = λ e. record { turn = refl; called = refl; shut = refl; prep = refl; plan = refl; written = refl; now = refl; linked = refl; watch = λ n. le_refl _; untold = λ q o. le_refl _; last = refl; low = refl; home = λ q. refl; put = λ s. refl };
          turns = λ e. e;
        };
        mine = record {
          of_object = ok.of_object;
          of_callers = ok.of_callers;
          holds = ok.holds;
          joint = ok.joint;
          notes = blank_ok g' id (IsWhole v);
          hand = ok.hand;
          ties = ok.ties;
          stage = ok.stage;
          window = window_fact_stays g g' w.chain grows w.homes v.window (λ a n p e s. (e, s, refl)) ok.window;
          owned = ok.owned;
        };
        paid_by = let z : (g.paid - flag v.paid) + flag v.paid ≡ g.paid + 0 = omega arith in z;
        untold_by = λ a. refl;
        watch_by = λ n. refl;
        seated = λ a b j other e. e;
        turned = λ j other e. e;
        seen = ((λ e. e), inr refl);
      }
