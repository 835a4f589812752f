-- What the files of a command come to, one after the other.
use Rattle.std.proofs.Common.{◌≡◌, ◌≤◌, ◌+◌, ◌∙◌, ℕ, List, Bool, true, false, ◌&&◌, if◌then◌else◌, nat_le, length, Option, Some, None, IfSome, IsTrue, Result, Ok, Err, refl, sym, ap, subst, inl, inr, arith}
use Rattle.std.specs.Result.{is_ok}
use Rattle.ho_io.specs.Whole.{bytes_within}
use Rattle.drive_kit.specs.Causes.{and_then, made_of}
use Rattle.record_cli.specs.Answers.{Answer, Gives, IsAnswerOf, IsRefused, IsThis, StopsWith, file_of, too_large, two_files}
use Rattle.record_cli.specs.Reading.{FailedInTurn, Fetches, Files, OneFile, Reading, NoFile, ShelfState, TwoFiles, faults_after, is_fine_file}
use Rattle.record_cli.specs.declared.stopped.Stopped.{Stopped}
use Rattle.record_cli.specs.declared.stopped.Stopped.TheVariants as stopped

-- what holds of all values holds of the one that there may be
pub always : {X : Type 0} (o : Option X) {P : X → Type 0} → ((x : X) → P x) → IfSome o P
always None f = tt
always (Some x) f = f x

-- what follows of a value follows of the one that there may be
pub map_some : {X : Type 0} (o : Option X) {P Q : X → Type 0} → IfSome o P → ((x : X) → P x → Q x) → IfSome o Q
map_some None p f = tt
map_some (Some x) p f = f x p

pub map_both : {X : Type 0} (o : Option X) {P Q R : X → Type 0} → IfSome o P → IfSome o Q → ((x : X) → P x → Q x → R x) → IfSome o R
map_both None p q f = tt
map_both (Some x) p q f = f x p q

pub map_three : {X : Type 0} (o : Option X) {P Q R T : X → Type 0} → IfSome o P → IfSome o Q → IfSome o R → ((x : X) → P x → Q x → R x → T x) → IfSome o T
map_three None p q r f = tt
map_three (Some x) p q r f = f x p q r

pub nothing_read : (s : ShelfState) → Fetches NoFile s s false
nothing_read s = record {
  files = refl;
  bounded = omega arith;
  given = always s.files (λ files. omega arith);
  idle_bounded = omega arith;
  idle = always s.files (λ files. omega arith);
  later = omega arith;
  faults = refl;
  in_turn = always s.files (λ files t. cc);
}

module _ (first : List ℕ) (limit : ℕ) (is_fine : List ℕ → Bool) (second : List ℕ) (second_limit : ℕ) where
  -- the second file was not read
  pub first_alone : (a b : ShelfState) (f : Bool) → Fetches (OneFile first limit) a b f → Fetches (TwoFiles first limit is_fine second second_limit) a b f
  first_alone a b f h = record {
    files = h.files;
    bounded = omega (arith, h.bounded);
    given = map_some a.files h.given (λ files g. omega arith);
    idle_bounded = omega (arith, h.idle_bounded);
    idle = map_some a.files h.idle (λ files g. omega arith);
    later = h.later;
    faults = h.faults;
    in_turn = map_some a.files h.in_turn (λ files g t. inl (g t));
  }

  more_given : (fine : Bool) (a b c x y : ℕ) → IsTrue fine → b ≤ a + x → c ≤ b + y → c ≤ a + (x + (if fine then y else 0))
  more_given true a b c x y t g h = omega arith
  more_given false a b c x y t g h = cc

  more_idle : (fine : Bool) (a b c : ℕ) → IsTrue fine → b ≤ a + 1 → c ≤ b + 1 → c ≤ a + (1 + (if fine then 1 else 0))
  more_idle true a b c t g h = omega arith
  more_idle false a b c t g h = cc

  -- the first was not refused, and the second was read
  pub both_read : (a b c : ShelfState) (f : Bool) → Fetches (OneFile first limit) a b false → IfSome a.files (λ files. IsTrue (is_fine_file limit is_fine (files first)))
      → Fetches (OneFile second second_limit) b c f → Fetches (TwoFiles first limit is_fine second second_limit) a c f
  both_read a b c f h fine k =
      let given : IfSome a.files (λ files. c.given ≤ b.given + bytes_within second_limit (files second)) = subst (λ o. IfSome o (λ files. c.given ≤ b.given + bytes_within second_limit (files second))) h.files k.given in
      let in_turn : IfSome a.files (λ files. IsTrue f → FailedInTurn files (OneFile second second_limit) c.failing) = subst (λ o. IfSome o (λ files. IsTrue f → FailedInTurn files (OneFile second second_limit) c.failing)) h.files k.in_turn in
      record {
        files = k.files ∙ h.files;
        bounded = omega (arith, h.bounded, k.bounded);
        given = map_three a.files h.given given fine (λ files x y t. more_given (is_fine_file limit is_fine (files first)) a.given b.given c.given (bytes_within limit (files first)) (bytes_within second_limit (files second)) t x y);
        idle_bounded = omega (arith, h.idle_bounded, k.idle_bounded);
        idle = map_some a.files fine (λ files t. more_idle (is_fine_file limit is_fine (files first)) a.idle b.idle c.idle t h.idle_bounded k.idle_bounded);
        later = omega (arith, h.later, k.later);
        faults = subst (λ n. c.faults ≡ faults_after n f) h.faults k.faults;
        in_turn = map_both a.files in_turn fine (λ files g t u. inr ((g u).0, (g u).1, t));
      }

module _ {A : Type 0} (name : List ℕ) (limit : ℕ) (meaning : List ℕ → Result A Answer) where
  within_limit : (fits : Bool) (bytes text : List ℕ) (a : A) → (if fits then Ok bytes else Err (too_large name)) ≡ Ok text → meaning text ≡ Ok a → IsTrue (fits && is_ok (meaning bytes))
  within_limit false bytes text a e m = cc
  within_limit true bytes text a e m =
      let same : text ≡ bytes = cc in
      subst (λ bytes. IsTrue (is_ok (meaning bytes))) same (subst (λ r. IsTrue (is_ok r)) (sym m) refl)

  -- a file that was read and is not refused
  pub is_fine : (file : Option (List ℕ)) (text : List ℕ) (a : A) → file_of limit name file ≡ Ok text → meaning text ≡ Ok a → IsTrue (is_fine_file limit (λ text. is_ok (meaning text)) file)
  is_fine None text a e m = cc
  is_fine (Some bytes) text a e m = within_limit (nat_le (length bytes) limit) bytes text a e m

module _ {A B : Type 0} where
  -- what is refused first is refused
  pub refused_first : (e : Result A Answer) (next : A → Result B Answer) (stop : Stopped) → StopsWith (IsRefused e) stop → StopsWith (IsRefused (and_then e next)) stop
  refused_first (Ok a) next (stopped.Refused row) h = absurd h
  refused_first (Err refusal) next (stopped.Refused row) h = h
  refused_first e next stopped.ReadFault h = tt
  refused_first e next stopped.NoMemory h = tt

  pub goes_on : (e : Result A Answer) (next : A → Result B Answer) (a : A) → e ≡ Ok a → and_then e next ≡ next a
  goes_on e next a h = ap (λ r. and_then r next) h

  pub refused_next : (e : Result A Answer) (next : A → Result B Answer) (a : A) (stop : Stopped) → e ≡ Ok a → StopsWith (IsRefused (next a)) stop → StopsWith (IsRefused (and_then e next)) stop
  refused_next e next a stop h r = subst (λ e. StopsWith (IsRefused e) stop) (sym (goes_on e next a h)) r

  pub gives_next : (e : Result A Answer) (next : A → Result B Answer) (a : A) (r : Result B Stopped) → e ≡ Ok a → Gives (next a) r → Gives (and_then e next) r
  gives_next e next a r h g = subst (λ e. Gives e r) (sym (goes_on e next a h)) g

  pub made_refused : (make : A → B) (e : Result A Answer) (stop : Stopped) → StopsWith (IsRefused e) stop → StopsWith (IsRefused (made_of make e)) stop
  made_refused make (Ok a) (stopped.Refused row) h = absurd h
  made_refused make (Err refusal) (stopped.Refused row) h = h
  made_refused make e stopped.ReadFault h = tt
  made_refused make e stopped.NoMemory h = tt

  pub made : (make : A → B) (e : Result A Answer) (a : A) → e ≡ Ok a → made_of make e ≡ Ok (make a)
  made make e a h = ap (made_of make) h

module _ {A B C : Type 0} (first : List ℕ) (limit : ℕ) (meaning : List ℕ → Result A Answer) (second : List ℕ) (second_limit : ℕ) (make : A → B → C) (beside : A → List ℕ → Result B Answer) where
  abbrev first_file : Files → Result (List ℕ) Answer
  first_file files = file_of limit first (files first)

  abbrev second_file : Files → Result (List ℕ) Answer
  second_file files = file_of second_limit second (files second)

  abbrev judged : Files → Result A Answer
  judged files = and_then (first_file files) meaning

  abbrev then_second : Files → A → Result C Answer
  then_second files a = and_then (second_file files) (λ bytes. made_of (make a) (beside a bytes))

  -- what the two files come to
  abbrev both : Files → Result C Answer
  both files = two_files files first limit meaning second second_limit (λ a bytes. made_of (make a) (beside a bytes))

  pub unread_first : (files : Files) (stop : Stopped) → StopsWith (IsRefused (first_file files)) stop → StopsWith (IsRefused (both files)) stop
  unread_first files stop h = refused_first (judged files) (then_second files) stop (refused_first (first_file files) meaning stop h)

  pub refused_by_first : (files : Files) (text : List ℕ) (stop : Stopped) → first_file files ≡ Ok text → StopsWith (IsRefused (meaning text)) stop → StopsWith (IsRefused (both files)) stop
  refused_by_first files text stop e h = refused_first (judged files) (then_second files) stop (refused_next (first_file files) meaning text stop e h)

  is_judged : (files : Files) (text : List ℕ) (a : A) → first_file files ≡ Ok text → meaning text ≡ Ok a → judged files ≡ Ok a
  is_judged files text a e m = goes_on (first_file files) meaning text e ∙ m

  pub unread_second : (files : Files) (text : List ℕ) (a : A) (stop : Stopped) → first_file files ≡ Ok text → meaning text ≡ Ok a → StopsWith (IsRefused (second_file files)) stop → StopsWith (IsRefused (both files)) stop
  unread_second files text a stop e m h =
      refused_next (judged files) (then_second files) a stop (is_judged files text a e m) (refused_first (second_file files) (λ bytes. made_of (make a) (beside a bytes)) stop h)

  pub refused_by_second : (files : Files) (text : List ℕ) (a : A) (bytes : List ℕ) (stop : Stopped) → first_file files ≡ Ok text → meaning text ≡ Ok a → second_file files ≡ Ok bytes
      → StopsWith (IsRefused (beside a bytes)) stop → StopsWith (IsRefused (both files)) stop
  refused_by_second files text a bytes stop e m f h =
      refused_next (judged files) (then_second files) a stop (is_judged files text a e m)
      (refused_next (second_file files) (λ bytes. made_of (make a) (beside a bytes)) bytes stop f (made_refused (make a) (beside a bytes) stop h))

  pub both_mean : (files : Files) (text : List ℕ) (a : A) (bytes : List ℕ) (b : B) → first_file files ≡ Ok text → meaning text ≡ Ok a → second_file files ≡ Ok bytes → beside a bytes ≡ Ok b → both files ≡ Ok (make a b)
  both_mean files text a bytes b e m f g =
      goes_on (judged files) (then_second files) a (is_judged files text a e m) ∙ (goes_on (second_file files) (λ bytes. made_of (make a) (beside a bytes)) bytes f ∙ made (make a) (beside a bytes) b g)

  -- the first file is fine, and the second was read
  pub then_read : (a b c : ShelfState) (text : List ℕ) (x : A) (f g : Bool) → Fetches (OneFile first limit) a b false → IfSome a.files (λ files. first_file files ≡ Ok text) → meaning text ≡ Ok x
      → g ≡ f → Fetches (OneFile second second_limit) b c f → Fetches (TwoFiles first limit (λ text. is_ok (meaning text)) second second_limit) a c g
  then_read a b c text x f g h loaded means same k =
      let fine : IfSome a.files (λ files. IsTrue (is_fine_file limit (λ text. is_ok (meaning text)) (files first))) =
      map_some a.files loaded (λ files e. is_fine first limit meaning (files first) text x e means) in
      subst (λ f. Fetches (TwoFiles first limit (λ text. is_ok (meaning text)) second second_limit) a c f) (sym same)
      (both_read first limit (λ text. is_ok (meaning text)) second second_limit a b c f h fine k)

  -- the first file is fine, and the second was read and is refused
  pub then_refused : (told still : Option Files) (text : List ℕ) (x : A) (bytes : List ℕ) (stop : Stopped) (r : Result C Stopped) → still ≡ told → IfSome told (λ files. first_file files ≡ Ok text) → meaning text ≡ Ok x
      → IfSome still (λ files. second_file files ≡ Ok bytes) → Gives (beside x bytes) (Err stop) → r ≡ Err stop → IfSome told (λ files. Gives (both files) r)
  then_refused told still text x bytes stop r kept loaded means next refused same =
      let second_loaded : IfSome told (λ files. second_file files ≡ Ok bytes) = subst (λ o. IfSome o (λ files. second_file files ≡ Ok bytes)) kept next in
      map_both told loaded second_loaded (λ files e f.
      subst (λ (r : Result C Stopped). Gives (both files) r) (sym same) (refused_by_second files text x bytes stop e means f refused))
