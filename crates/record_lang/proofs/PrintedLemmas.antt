-- A pipeline that is written as a text is read as itself.
use Rattle.std.proofs.Common.{◌≡◌, ◌≤◌, ◌+◌, ◌-◌, ◌++◌, ◌∙◌, ◌==◌, ◌&&◌, ℕ, zero, suc, List, [], ◌∷◌, All, length, map, slice_index, nat_lt, nat_le, take, decimal, Bool, true, false, Option, Some, None, Result, Ok, refl, ap, sym, arith, append_assoc, if◌then◌else◌}
use Rattle.std.specs.Fmt.{signed_decimal}
use Rattle.std.specs.List.{flat_map, list_all, slice_split}
use Rattle.std.specs.Option.{ForSome}
use Rattle.std.specs.Str.Lines.{lines, lines_of_parts, strip_carriage_return}
use Rattle.std.proofs.lemmas.Bool.Decides.{nat_tests}
use Rattle.std.proofs.lemmas.List.{append-nil, length-append}
use Rattle.std.proofs.lemmas.List.Splits.{slice_split_at}
use Rattle.std.proofs.lemmas.List.Sums.{AllPass-from_list_all}
use Rattle.record_lang.specs.Causes.{Refusal}
use Rattle.record_lang.specs.Lines.{is_printable, line_of, line_of_words}
use Rattle.record_lang.specs.Parsing.{nothing_yet, reading_from, with_line}
use Rattle.record_lang.specs.Pipelines.{IsBuildable, Meaning}
use Rattle.record_lang.specs.Printed.{IsSayable, IsSayableGuard, PipelinesAreReadBack, guard_words, is_word, joint_words, line_text, pipeline_lines, relation_word, stage_lines, stage_words}
use Rattle.record_lang.specs.SoFar.{SoFar}
use Rattle.record_lang.specs.Words.{mode_of, operation_of, relation_of}
use Rattle.record_lang.specs.Lines as said
use Rattle.record_lang.specs.declared.causes.Cause.{Cause}
use Rattle.record_lang.specs.declared.lines.Line.{Line}
use Rattle.record_lang.specs.declared.lines.Line.TheVariants as line
use Rattle.record_lang.specs.declared.pipelines.Guard.{Guard}
use Rattle.record_lang.specs.declared.pipelines.Joint.{Joint}
use Rattle.record_lang.specs.declared.pipelines.Joint.TheVariants.{Wait, DropNewest, DropOldest, DropWrite, Unbounded}
use Rattle.record_lang.specs.declared.pipelines.Relation.{Relation}
use Rattle.record_lang.specs.declared.pipelines.Relation.TheVariants as rel
use Rattle.record_lang.specs.declared.pipelines.Stage.{Stage}
use Rattle.record_lang.specs.declared.pipelines.Stage.TheVariants as stage
use Rattle.record_lang.proofs.LineLemmas.{lines_of_parts-cons}
use Rattle.record_lang.proofs.WordLemmas.{both_of, capacity_back, code_back, decimal_word, left_of, line_shown, operand_back, place_back, signed_word, words_back}

-- 1. A line of words

chosen : (a b : Bool) (x y z : Result Line Cause) → a ≡ false → b ≡ true → (if a then x else if b then y else z) ≡ y
chosen a b x y z ha hb = rw (ha, hb) refl

line_back : (c : ℕ) (word : List ℕ) (ws : List (List ℕ)) → (c == 35) ≡ false → list_all is_word ((c ∷ word) ∷ ws) ≡ true → line_of (line_text ((c ∷ word) ∷ ws)) ≡ line_of_words ((c ∷ word) ∷ ws)
unfolding line_of
line_back c word [] plain are =
    chosen (c == 35) (list_all is_printable (c ∷ word)) _ _ _ plain (line_shown ((c ∷ word) ∷ []) are) ∙ ap line_of_words (words_back (c ∷ word) [] are)
line_back c word (v ∷ ws) plain are =
    chosen (c == 35) (list_all is_printable (line_text ((c ∷ word) ∷ v ∷ ws))) _ _ _ plain (line_shown ((c ∷ word) ∷ v ∷ ws) are) ∙ ap line_of_words (words_back (c ∷ word) (v ∷ ws) are)

-- 2. Stages, joints and the guard

relation_back : (r : Relation) → relation_of (relation_word r) ≡ Ok r
unfolding relation_of
relation_back rel.Less = refl
relation_back rel.AtMost = refl
relation_back rel.Equal = refl
relation_back rel.AtLeast = refl
relation_back rel.Greater = refl

relation-is-word : (r : Relation) → is_word (relation_word r) ≡ true
relation-is-word rel.Less = refl
relation-is-word rel.AtMost = refl
relation-is-word rel.Equal = refl
relation-is-word rel.AtLeast = refl
relation-is-word rel.Greater = refl

place-word : (f : ℕ) → f ≤ 99 → is_word (decimal f) ≡ true
place-word f h = decimal_word f (omega (arith, h))

two : (a b : List ℕ) → is_word a ≡ true → is_word b ≡ true → list_all is_word (a ∷ b ∷ []) ≡ true
two a b ha hb = both_of (is_word a) (is_word b && true) ha (both_of (is_word b) true hb refl)

one : (a : List ℕ) → is_word a ≡ true → list_all is_word (a ∷ []) ≡ true
one a ha = both_of (is_word a) true ha refl

three : (a b c : List ℕ) → is_word a ≡ true → is_word b ≡ true → is_word c ≡ true → list_all is_word (a ∷ b ∷ c ∷ []) ≡ true
three a b c ha hb hc = both_of (is_word a) (list_all is_word (b ∷ c ∷ [])) ha (two b c hb hc)

stage_are : (s : Stage) → IsSayable s → list_all is_word (stage_words s) ≡ true
stage_are (stage.Keep f r n) h = three (decimal f) (relation_word r) (signed_decimal n) (place-word f h.0) (relation-is-word r) (signed_word n h.1)
stage_are (stage.Match f text) h = two (decimal f) text (place-word f h.0) h.1
stage_are (stage.Add f n) h = two (decimal f) (signed_decimal n) (place-word f h.0) (signed_word n h.1)
stage_are (stage.Mul f n) h = two (decimal f) (signed_decimal n) (place-word f h.0) (signed_word n h.1)
stage_are (stage.Sum f g) h = two (decimal f) (decimal g) (place-word f h.0) (place-word g h.1)
stage_are (stage.Cat f g) h = two (decimal f) (decimal g) (place-word f h.0) (place-word g h.1)
stage_are (stage.Copy f) h = one (decimal f) (place-word f h)
stage_are (stage.Cut f) h = one (decimal f) (place-word f h)

stage-words-back : (s : Stage) → IsSayable s → line_of_words (stage_words s) ≡ Ok (line.Stage s)
unfolding line_of_words said.stage_with operation_of
stage-words-back (stage.Keep f r n) h = rw (place_back f h.0, relation_back r, operand_back n h.1) refl
stage-words-back (stage.Match f text) h = rw (place_back f h.0) refl
stage-words-back (stage.Add f n) h = rw (place_back f h.0, operand_back n h.1) refl
stage-words-back (stage.Mul f n) h = rw (place_back f h.0, operand_back n h.1) refl
stage-words-back (stage.Sum f g) h = rw (place_back f h.0, place_back g h.1) refl
stage-words-back (stage.Cat f g) h = rw (place_back f h.0, place_back g h.1) refl
stage-words-back (stage.Copy f) h = rw (place_back f h) refl
stage-words-back (stage.Cut f) h = rw (place_back f h) refl

stage_back : (s : Stage) → IsSayable s → line_of (line_text (stage_words s)) ≡ Ok (line.Stage s)
stage_back (stage.Keep f r n) h = line_back 115 _ _ refl (stage_are (stage.Keep f r n) h) ∙ stage-words-back (stage.Keep f r n) h
stage_back (stage.Match f text) h = line_back 115 _ _ refl (stage_are (stage.Match f text) h) ∙ stage-words-back (stage.Match f text) h
stage_back (stage.Add f n) h = line_back 115 _ _ refl (stage_are (stage.Add f n) h) ∙ stage-words-back (stage.Add f n) h
stage_back (stage.Mul f n) h = line_back 115 _ _ refl (stage_are (stage.Mul f n) h) ∙ stage-words-back (stage.Mul f n) h
stage_back (stage.Sum f g) h = line_back 115 _ _ refl (stage_are (stage.Sum f g) h) ∙ stage-words-back (stage.Sum f g) h
stage_back (stage.Cat f g) h = line_back 115 _ _ refl (stage_are (stage.Cat f g) h) ∙ stage-words-back (stage.Cat f g) h
stage_back (stage.Copy f) h = line_back 115 _ _ refl (stage_are (stage.Copy f) h) ∙ stage-words-back (stage.Copy f) h
stage_back (stage.Cut f) h = line_back 115 _ _ refl (stage_are (stage.Cut f) h) ∙ stage-words-back (stage.Cut f) h

capacity-word : (c : ℕ) → c ≤ 65536 → is_word (decimal c) ≡ true
capacity-word c h = decimal_word c (omega (arith, h))

joint_are : (j : Joint) → IsBuildable j → list_all is_word (joint_words j) ≡ true
joint_are (Wait c) h = one (decimal c) (capacity-word c h.most)
joint_are (DropNewest c) h = one (decimal c) (capacity-word c h.most)
joint_are (DropOldest c) h = one (decimal c) (capacity-word c h.most)
joint_are (DropWrite c) h = one (decimal c) (capacity-word c h.most)
joint_are Unbounded h = refl

joint-words-back : (j : Joint) → IsBuildable j → line_of_words (joint_words j) ≡ Ok (line.Joint j)
unfolding line_of_words said.joint_of mode_of
joint-words-back (Wait c) h = rw (capacity_back c h.least h.most) refl
joint-words-back (DropNewest c) h = rw (capacity_back c h.least h.most) refl
joint-words-back (DropOldest c) h = rw (capacity_back c h.least h.most) refl
joint-words-back (DropWrite c) h = rw (capacity_back c h.least h.most) refl
joint-words-back Unbounded h = refl

joint_back : (j : Joint) → IsBuildable j → line_of (line_text (joint_words j)) ≡ Ok (line.Joint j)
joint_back (Wait c) h = line_back 106 _ _ refl (joint_are (Wait c) h) ∙ joint-words-back (Wait c) h
joint_back (DropNewest c) h = line_back 106 _ _ refl (joint_are (DropNewest c) h) ∙ joint-words-back (DropNewest c) h
joint_back (DropOldest c) h = line_back 106 _ _ refl (joint_are (DropOldest c) h) ∙ joint-words-back (DropOldest c) h
joint_back (DropWrite c) h = line_back 106 _ _ refl (joint_are (DropWrite c) h) ∙ joint-words-back (DropWrite c) h
joint_back Unbounded h = line_back 106 _ _ refl (joint_are Unbounded h) ∙ joint-words-back Unbounded h

guard_are : (g : Guard) → IsSayableGuard g → list_all is_word (guard_words g) ≡ true
guard_are g h = three (decimal g.field) g.text (decimal g.code) (place-word g.field h.field) h.text (decimal_word g.code (let m = h.most in omega (arith, m)))

guard-words-back : (g : Guard) → IsSayableGuard g → line_of_words (guard_words g) ≡ Ok (line.Guard g)
unfolding line_of_words
guard-words-back g h = rw (place_back g.field h.field, code_back g.code h.least h.most) refl

guard_back : (g : Guard) → IsSayableGuard g → line_of (line_text (guard_words g)) ≡ Ok (line.Guard g)
guard_back g h = line_back 103 _ _ refl (guard_are g h) ∙ guard-words-back g h

-- 3. Line by line

one-line : (place : ℕ) (before after : SoFar) (text : List ℕ) (says : Line) (rest : List (List ℕ)) → line_of text ≡ Ok says → with_line before says ≡ Ok after → reading_from place before (text ∷ rest) ≡ reading_from (place + 1) after rest
unfolding reading_from
one-line place before after text says rest is more = rw (is, more) refl

abbrev so_far : List Stage → List Joint → Option Guard → Option Joint → SoFar
so_far stages joints guard loose = record { stages = stages; joints = joints; guard = guard; loose = loose }

abbrev all_of : List Stage → List Joint → Option Guard → Result Meaning Refusal
all_of stages joints guard = Ok (record { stages = stages; joints = joints; guard = guard })

at-the-end : (place : ℕ) (ss : List Stage) (js : List Joint) (g : Option Guard) → 1 ≤ length ss → reading_from place (so_far ss js g None) [] ≡ all_of ss js g
unfolding reading_from
at-the-end place ss js g some = let not : (length ss == 0) ≡ false = grind (arith, nat_tests) in rw not refl

stages_back : (stages ss : List Stage) (joints js : List Joint) (g : Option Guard) (place : ℕ) → length joints ≡ length stages → length ss + length stages ≤ 8 → 1 ≤ length ss + length stages → All IsSayable stages → All IsBuildable joints
    → reading_from place (so_far ss js g None) (map line_text (stage_lines stages joints)) ≡ all_of (ss ++ stages) (js ++ joints) g
stages_back [] ss [] js g place same few some says builds =
    let many : 1 ≤ length ss = omega (arith, some) in
    at-the-end place ss js g many ∙ ap (λ (z : List Stage). all_of z js g) (sym (append-nil ss)) ∙ ap (λ (z : List Joint). all_of (ss ++ []) z g) (sym (append-nil js))
stages_back [] ss (j ∷ joints) js g place same few some says builds = absurd (omega (arith, same))
stages_back (s ∷ stages) ss [] js g place same few some says builds = absurd (omega (arith, same))
stages_back (s ∷ stages) ss (j ∷ joints) js g place same few some says builds =
    let room : nat_lt (length ss) 8 ≡ true = grind (arith, nat_tests) in
    let joint = joint_back j (builds 0 j (omega arith)) in
    let next = stage_back s (says 0 s (omega arith)) in
    let added : with_line (so_far ss js g (Some j)) (line.Stage s) ≡ Ok (so_far (ss ++ s ∷ []) (js ++ j ∷ []) g None) = rw room refl in
    let count = length-append ss (s ∷ []) in
    one-line place (so_far ss js g None) (so_far ss js g (Some j)) (line_text (joint_words j)) (line.Joint j) (map line_text (stage_words s ∷ stage_lines stages joints)) joint refl
    ∙ one-line (place + 1) (so_far ss js g (Some j)) (so_far (ss ++ s ∷ []) (js ++ j ∷ []) g None) (line_text (stage_words s)) (line.Stage s) (map line_text (stage_lines stages joints)) next added
    ∙ stages_back stages (ss ++ s ∷ []) joints (js ++ j ∷ []) g (place + 1 + 1) (omega (arith, same)) (omega (arith, few, count)) (omega (arith, some, count)) (λ k d lt. says (suc k) d (omega (arith, lt))) (λ k d lt. builds (suc k) d (omega (arith, lt)))
    ∙ ap (λ (z : List Stage). all_of z ((js ++ j ∷ []) ++ joints) g) (append_assoc ss (s ∷ []) stages)
    ∙ ap (λ (z : List Joint). all_of (ss ++ s ∷ stages) z g) (append_assoc js (j ∷ []) joints)

-- 4. The lines of the text

shown-byte : (b : ℕ) → is_printable b ≡ true → ((b == 10) ≡ false) × ((b == 13) ≡ false)
shown-byte b h = let low = left_of (nat_le 32 b) (nat_le b 126) h in (grind (arith, nat_tests), grind (arith, nat_tests))

kept-if : (l : List ℕ) (b : Bool) → b ≡ false → (if b then take (length l - 1) l else l) ≡ l
kept-if l b h = rw h refl

no-return : (l : List ℕ) → list_all is_printable l ≡ true → strip_carriage_return l ≡ l
no-return [] h = refl
no-return (c ∷ rest) h =
    let shows = AllPass-from_list_all is_printable (c ∷ rest) h (length (c ∷ rest) - 1) 0 (omega arith) in
    kept-if (c ∷ rest) (slice_index (c ∷ rest) (length (c ∷ rest) - 1) == 13) (shown-byte (slice_index (c ∷ rest) (length (c ∷ rest) - 1)) shows).1

lines-back : (all : List (List (List ℕ))) → All (λ words. list_all is_word words ≡ true) all → lines (flat_map (λ words. line_text words ++ 10 ∷ []) all) ≡ map line_text all
lines-back [] are = refl
lines-back (words ∷ all) are =
    let shows = line_shown words (are 0 words (omega arith)) in
    let rest : List ℕ = flat_map (λ words. line_text words ++ 10 ∷ []) all in
    ap (λ z. lines_of_parts (slice_split (λ b. b == 10) z)) (append_assoc (line_text words) (10 ∷ []) rest)
    ∙ ap lines_of_parts (slice_split_at (λ b. b == 10) (line_text words) 10 rest (λ k d lt. (shown-byte _ (AllPass-from_list_all is_printable (line_text words) shows k d lt)).0) refl)
    ∙ lines_of_parts-cons (line_text words) (λ b. b == 10) rest
    ∙ ap (λ (z : List ℕ). z ∷ lines rest) (no-return (line_text words) shows)
    ∙ ap (λ (z : List (List ℕ)). line_text words ∷ z) (lines-back all (λ k d lt. are (suc k) d (omega (arith, lt))))

-- 5. The whole

all-cons : (words : List (List ℕ)) (all : List (List (List ℕ))) → list_all is_word words ≡ true → All (λ words. list_all is_word words ≡ true) all → All (λ words. list_all is_word words ≡ true) (words ∷ all)
all-cons words all first later zero d lt = first
all-cons words all first later (suc k) d lt = later k d (omega (arith, lt))

stage-lines-are : (stages : List Stage) (joints : List Joint) → All IsSayable stages → All IsBuildable joints → All (λ words. list_all is_word words ≡ true) (stage_lines stages joints)
stage-lines-are [] joints says builds = λ k d lt. absurd (omega (arith, lt))
stage-lines-are (s ∷ stages) [] says builds = λ k d lt. absurd (omega (arith, lt))
stage-lines-are (s ∷ stages) (j ∷ joints) says builds =
    all-cons (joint_words j) (stage_words s ∷ stage_lines stages joints) (joint_are j (builds 0 j (omega arith)))
    (all-cons (stage_words s) (stage_lines stages joints) (stage_are s (says 0 s (omega arith))) (stage-lines-are stages joints (λ k d lt. says (suc k) d (omega (arith, lt))) (λ k d lt. builds (suc k) d (omega (arith, lt)))))

lines-read : (stages : List Stage) (joints : List Joint) (guard : Option Guard) → length joints ≡ length stages → length stages ≤ 8 → 1 ≤ length stages → All IsSayable stages → All IsBuildable joints → ForSome guard IsSayableGuard
    → reading_from 0 nothing_yet (lines (flat_map (λ words. line_text words ++ 10 ∷ []) (pipeline_lines stages joints guard))) ≡ all_of stages joints guard
lines-read stages joints None same few some says builds guards =
    ap (reading_from 0 nothing_yet) (lines-back (stage_lines stages joints) (stage-lines-are stages joints says builds))
    ∙ stages_back stages [] joints [] None 0 same (omega (arith, few)) (omega (arith, some)) says builds
lines-read stages joints (Some guard) same few some says builds guards =
    ap (reading_from 0 nothing_yet) (lines-back (guard_words guard ∷ stage_lines stages joints) (all-cons (guard_words guard) (stage_lines stages joints) (guard_are guard (guards guard refl)) (stage-lines-are stages joints says builds)))
    ∙ one-line 0 nothing_yet (so_far [] [] (Some guard) None) (line_text (guard_words guard)) (line.Guard guard) (map line_text (stage_lines stages joints)) (guard_back guard (guards guard refl)) refl
    ∙ stages_back stages [] joints [] (Some guard) 1 same (omega (arith, few)) (omega (arith, some)) says builds

pub read_back : PipelinesAreReadBack
read_back m says = lines-read m.stages m.joints m.guard says.joints.fed says.joints.few says.joints.some says.stages says.joints.buildable says.guard
