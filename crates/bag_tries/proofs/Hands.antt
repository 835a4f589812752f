-- Lists that are taken and given back.
use Rattle.std.proofs.Common.{◌≡◌, ◌≢◌, ℕ, ◌<◌, ◌≤◌, List, [], ◌∷◌, length, get_or, set, sym, refl, ap, ◌∙◌, subst, arith, set-set, length-set}
use Rattle.std.proofs.lemmas.List.{set-get_or}
use Rattle.atomic_table.specs.Table.{rest}
use Rattle.ho_base.specs.Marks.{Mark}
use Rattle.passes.proofs.Starts.{length-replicate}
use Rattle.bag_rule.specs.declared.view.View.{View}
use Rattle.bag_rule.specs.declared.view.Hand.{Hand}
use Rattle.bag_rule.specs.declared.view.Hand.TheVariants.{Away, Kept}
use Rattle.bag_rule.specs.Views.{hand_at, none_kept}
use Rattle.bag_rule.specs.Plays.{Sits, GotList}
use Rattle.bag_rule.specs.Seats.{front_of, InHand}
use Rattle.bag_rule.proofs.Lists.{no_hand, hand_here, hand_else}
use Rattle.bag_tries.specs.Seats.{HasOwnBare}

pub none_long : length none_kept ≡ 64
none_long = length-replicate {A = Hand} 64 Away

-- a list taken, its items changed, and given back
pub back_once : (hands : List Hand) (c : ℕ) (h : Hand) → get_or hands c Away ≡ Away → set (set hands c h) c Away ≡ hands
back_once hands c h away = set-set hands c h Away ∙ (ap (set hands c) (sym away) ∙ set-get_or hands c Away)

pub back_twice : (hands : List Hand) (c : ℕ) (h h' : Hand) → get_or hands c Away ≡ Away → set (set (set hands c h) c h') c Away ≡ hands
back_twice hands c h h' away = set-set (set hands c h) c h' Away ∙ back_once hands c h away

pub none_back : (hands : List Hand) (c : ℕ) (h : Hand) → hands ≡ set none_kept c h → set hands c Away ≡ none_kept
none_back hands c h is = ap (λ (z : List Hand). set z c Away) is ∙ back_once none_kept c h (no_hand 64 c)

-- a list in the hand
pub in_hand : (m : Sits) (c : ℕ) (items : List Mark) (more : List (ℕ × List Mark)) → m.1 ≡ (c, items) ∷ more → hand_at m.0 c ≡ Kept items → InHand m c
in_hand m c items more carried kept = subst (λ (z : List (ℕ × List Mark)). (z ≡ (c, front_of z) ∷ rest z) × (hand_at m.0 c ≡ Kept (front_of z))) (sym carried) (refl, kept)

-- the own list, without an item
module _ (m : Sits) (c : ℕ) (own : HasOwnBare m c) (low : c < 64) where
  pub own_kept : hand_at m.0 c ≡ Kept []
  own_kept = ap (λ (z : List Hand). get_or z c Away) own.0 ∙ hand_here none_kept c (Kept []) (let l = none_long in omega arith)

  pub own_away : (d : ℕ) → d ≢ c → hand_at m.0 d ≡ Away
  own_away d ne = ap (λ (z : List Hand). get_or z d Away) own.0 ∙ (hand_else none_kept c (Kept []) d ne ∙ no_hand 64 d)

  pub own_wide : length m.0.keeps ≡ 64
  own_wide = ap length own.0 ∙ (length-set none_kept c (Kept []) ∙ none_long)

  -- after a step that left it in the hand
  pub own_in_hand : (w : Sits) → w.0.keeps ≡ m.0.keeps → w.1 ≡ m.1 → InHand w c
  own_in_hand w same carried = in_hand w c [] [] (carried ∙ own.1) (ap (λ (z : List Hand). get_or z c Away) same ∙ own_kept)

-- a list that was got
module _ (pr : Mark → ℕ) (v : View) (carried : List (ℕ × List Mark)) (c : ℕ) (t : Sits) (got : GotList pr v carried c t) (wide : length v.keeps ≡ 64) (low : c < 64) where
  pub got_hand : InHand t c × (length (front_of t.1) ≤ 16383)
  got_hand = subst (λ (z : Sits). InHand z c × (length (front_of z.1) ≤ 16383)) (sym got.1) ((refl, hand_here v.keeps c (Kept got.0) (omega arith)), got.2)
