-- The words of the table, one of which changes.
use Rattle.std.proofs.Common.{◌≡◌, ◌≢◌, ℕ, ◌+◌, ◌*◌, ◌/◌, ◌%◌, ◌<◌, List, length, get_or, set, sym, ◌∙◌, ap, subst, arith, get_or-set_other, get_or-set_same, length-set}
use mathlib.Core.Logic.{dite}
use native.Mathlib.Decide.{ℕ_discrete}
use Rattle.bag_rule.specs.Words.{list_word, word_count, AreWords}
use Rattle.bag_rule.specs.Plays.{Shows}

module _ (words : List ℕ) (event : ℕ) (locks : List ℕ) (a : AreWords words event locks) where
  -- an event
  pub words_event : (new : ℕ) → AreWords (set words 0 new) new locks
  words_event new = (
    get_or-set_same words 0 new 0 (let b : length words ≡ 16 * length locks + 16 = a.2 in omega arith),
    (λ c lt. get_or-set_other words 0 (list_word c) new 0 (omega arith) ∙ a.1 c lt),
    length-set words 0 new ∙ a.2,
  )

  -- a list that is taken or left
  pub words_list : (c new : ℕ) → c < length locks → AreWords (set words (list_word c) new) event (set locks c new)
  words_list c new inside = (
    get_or-set_other words (list_word c) 0 new 0 (omega arith) ∙ a.0,
    (λ d lt. dite (ℕ_discrete d c)
        (λ (is : d ≡ c). subst (λ (z : ℕ). get_or (set words (list_word c) new) (list_word z) 0 ≡ get_or (set locks c new) z 0) (sym is)
        (get_or-set_same words (list_word c) new 0 (let b : length words ≡ 16 * length locks + 16 = a.2 in omega arith) ∙ sym (get_or-set_same locks c new 0 inside)))
        (λ (ne : d ≢ c). get_or-set_other words (list_word c) (list_word d) new 0 (let apart : d ≢ c = ne in omega arith)
        ∙ (a.1 d (let b = length-set locks c new in omega arith) ∙ sym (get_or-set_other locks c d new 0 ne)))),
    length-set words (list_word c) new ∙ (a.2 ∙ ap word_count (sym (length-set locks c new))),
  )

-- the receipt of an event
pub place_of : (word events items : ℕ) → Shows word events items → word / 1048576 ≡ events
place_of word events items s = let a : word ≡ 1048576 * events + items = s.0 in let b : items < 1048576 = s.1 in omega arith

-- and the items that its word showed
pub rest_of : (word events items : ℕ) → Shows word events items → word % 1048576 ≡ items
rest_of word events items s = let a : word ≡ 1048576 * events + items = s.0 in let b : items < 1048576 = s.1 in omega arith
