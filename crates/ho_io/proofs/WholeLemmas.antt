-- One more piece of a whole read or a whole write.
use Rattle.std.proofs.Common.{◌≡◌, ◌≤◌, ◌<◌, ◌+◌, ◌++◌, ◌∙◌, ℕ, List, length, take, drop, Option, Some, None, IfSome, option_map, refl, ap, sym, arith, append_assoc}
use Rattle.std.proofs.Math.Seq.{take-add}
use Rattle.std.proofs.lemmas.List.{length-append, length-take-le, length-take, take_all}
use Rattle.ho_io.specs.Pieces.{GivesPiece}
use Rattle.ho_io.specs.Whole.{IsReadSoFar, TookFirst}
use Rattle.ho_io.specs.declared.shelf.Fetched.TheVariants.{Bytes, Missing}

-- a sink that took done bytes of a text, and then n more of the rest
pub took_more : (before mid after : Option (List ℕ)) (text : List ℕ) (done n : ℕ) → TookFirst before mid text done → after ≡ option_map (λ taken. taken ++ take n (drop done text)) mid → TookFirst before after text (done + n)
took_more None mid after text done n was now = rw was at now
took_more (Some taken) mid after text done n was now =
    let step = rw was at now in
    step ∙ ap Some (append_assoc taken (take done text) (take n (drop done text)) ∙ ap (λ z. taken ++ z) (sym (take-add done n text)))

-- one more piece of a file
pub read_more : (file : Option (List ℕ)) (read buffer : List ℕ) (n : ℕ) → IsReadSoFar file read → GivesPiece file (length read) buffer (Bytes n) → n ≤ length buffer → IsReadSoFar file (read ++ take n buffer)
read_more None read buffer n so_far given fits = absurd given
read_more (Some file) read buffer n so_far given fits =
    let size : length (read ++ take n buffer) ≡ length read + n = length-append read (take n buffer) ∙ ap (λ k. length read + k) (length-take-le n buffer fits) in
    ap (λ z. read ++ z) given.bytes ∙ ap (λ z. z ++ take n (drop (length read) file)) so_far ∙ sym (take-add (length read) n file) ∙ ap (λ k. take k file) (sym size)

-- no more bytes: the file is read whole
pub read_all : (file : Option (List ℕ)) (read buffer : List ℕ) → IsReadSoFar file read → GivesPiece file (length read) buffer (Bytes 0) → file ≡ Some read
read_all None read buffer so_far given = absurd given
read_all (Some file) read buffer so_far given = ap Some (sym (so_far ∙ take_all (length read) file (given.at_end refl)))

-- more bytes than the limit
pub read_past : (file : Option (List ℕ)) (read : List ℕ) (limit : ℕ) → IsReadSoFar file read → limit < length read → (bytes : List ℕ) × (file ≡ Some bytes) × (limit < length bytes)
read_past None read limit so_far past = absurd (omega (arith, ap length so_far))
read_past (Some file) read limit so_far past = (file, refl, omega (arith, ap length so_far ∙ length-take (length read) file))

pub not_there : (file : Option (List ℕ)) (at : ℕ) (buffer : List ℕ) → GivesPiece file at buffer Missing → file ≡ None
not_there None at buffer given = refl
not_there (Some file) at buffer given = absurd given

-- the same, where the shelf may tell its files
pub told_more : (told now : Option (List ℕ → Option (List ℕ))) (name read after buffer : List ℕ) (at n : ℕ) → now ≡ told → IfSome told (λ m. IsReadSoFar (m name) read) → IfSome now (λ m. GivesPiece (m name) at buffer (Bytes n)) → at ≡ length read → n ≤ length buffer → after ≡ read ++ take n buffer → IfSome told (λ m. IsReadSoFar (m name) after)
told_more None now name read after buffer at n same so_far given here fits is = tt
told_more (Some m) now name read after buffer at n same so_far given here fits is =
    rw is (read_more (m name) read buffer n so_far (rw (same, here) at given) fits)

pub told_all : (told now : Option (List ℕ → Option (List ℕ))) (name read buffer : List ℕ) (at : ℕ) → now ≡ told → IfSome told (λ m. IsReadSoFar (m name) read) → IfSome now (λ m. GivesPiece (m name) at buffer (Bytes 0)) → at ≡ length read → IfSome told (λ m. m name ≡ Some read)
told_all None now name read buffer at same so_far given here = tt
told_all (Some m) now name read buffer at same so_far given here = read_all (m name) read buffer so_far (rw (same, here) at given)
