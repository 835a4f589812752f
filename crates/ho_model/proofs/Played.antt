-- A replay, one entry after another.
use Rattle.std.proofs.Common.{◌≡◌, ℕ, ◌+◌, ◌<◌, ◌≤◌, List, [], ◌∷◌, length, take, get_or, sym, ◌∙◌, ap}
use Rattle.std.specs.Prelude.{Option, Some}
use Rattle.std.proofs.lemmas.List.{take_more, take_all, map-append}
use Rattle.ho_base.specs.Marks.{Mark}
use Rattle.ho_model.specs.declared.objects.Object.{Object}
use Rattle.ho_model.specs.declared.histories.Entry.{Entry}
use Rattle.ho_model.specs.Objects.{State, object_step}
use Rattle.ho_model.specs.Histories.{state_after, IsLegal}
use Rattle.ho_model.specs.Written.{entry_of, history_of}
use Rattle.ho_model.proofs.Folds.{folded-push}

-- the state after one more entry, or the refusal
pub state_more : (p : Mark → ℕ) (o : Object) (h : List Entry) (i : ℕ) (e : Entry) (s : State) (r : Option State) → i < length h → e ≡ get_or h i e → state_after p o (history_of o (take i h)) ≡ Some s → object_step p o s (entry_of o e) ≡ r → state_after p o (history_of o (take (i + 1) h)) ≡ r
state_more p o h i e s r lt is was next =
    ap (λ es. state_after p o (history_of o es)) (take_more h i e lt)
    ∙ ap (λ es. state_after p o es) (map-append (entry_of o) (take i h) (get_or h i e ∷ []))
    ∙ folded-push p o (history_of o (take i h)) s (entry_of o (get_or h i e)) was
    ∙ ap (λ x. object_step p o s (entry_of o x)) (sym is)
    ∙ next

-- a history that was played to its end is legal
pub legal_whole : (p : Mark → ℕ) (o : Object) (h : List Entry) (i : ℕ) (s : State) → length h ≤ i → state_after p o (history_of o (take i h)) ≡ Some s → IsLegal p o (history_of o h)
legal_whole p o h i s all was = (s, ap (λ es. state_after p o (history_of o es)) (sym (take_all i h all)) ∙ was)
