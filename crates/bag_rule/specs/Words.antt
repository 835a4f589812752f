-- The words of a bag's table.
use Rattle.std.specs.Prelude.{◌≡◌, ℕ, ◌+◌, ◌*◌, ◌<◌, List, length, slice_index}
use Rattle.ho_model.specs.Bag.{Lists, item_count}

-- the event word after so many events, with these lists
abbrev pub event_word : ℕ → Lists → ℕ
event_word events lists = 1048576 * events + item_count lists

-- where the word of a list stands, each in a cache line of its own
abbrev pub list_word : ℕ → ℕ
list_word list = 16 * list + 16

-- how many words the table of n callers has
abbrev pub word_count : ℕ → ℕ
word_count n = 16 * n + 16

-- the words are the event word and the list words of all callers; those between have no meaning
abbrev pub AreWords : List ℕ → ℕ → List ℕ → Type 0
AreWords words event locks =
    (slice_index words 0 ≡ event) × ((c : ℕ) → c < length locks → slice_index words (list_word c) ≡ slice_index locks c) × (length words ≡ word_count (length locks))
