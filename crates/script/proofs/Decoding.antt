-- The bytes that digits write are those that the library decodes.
use Rattle.std.proofs.Common.{◌≡◌, ℕ, ◌+◌, ◌*◌, ◌%◌, ◌==◌, Bool, true, false, if◌then◌else◌, List, [], ◌∷◌, length, Some, None, Ok, Err, Option, Result, refl, ap, ◌∙◌, arith}
use Rattle.hex.specs.declared.error.FromHexError.{FromHexError}
use Rattle.hex.specs.declared.error.FromHexError.TheVariants.{OddLength}
use Rattle.std.proofs.lemmas.Bool.{eqb-true}
use Rattle.hex.specs.Hex.{hex_digit_value, digit_or_error, decode_of, decode_pairs, ◌>>=◌}
use Rattle.script.specs.Hex.{digit_of, joint, first, bytes_of}

-- what was decoded, if it was
abbrev pub decoded : Result (List ℕ) FromHexError → Option (List ℕ)
decoded (Ok bytes) = Some bytes
decoded (Err fault) = None

-- a digit has the library's value
digit_is : (c : ℕ) → digit_of c ≡ hex_digit_value c
digit_is c = grind (arith)

-- one byte more, of two digits' values
pair_is : (high low i : ℕ) (h l : Option ℕ) (more : Result (List ℕ) FromHexError) → first (joint h l) (decoded more) ≡ decoded ((digit_or_error high i h >>= λ h. digit_or_error low (i + 1) l >>= λ l. Ok (h * 16 + l)) >>= λ byte. more >>= λ bytes. Ok (byte ∷ bytes))
pair_is high low i None l more = refl
pair_is high low i (Some h) None more = refl
pair_is high low i (Some h) (Some l) (Ok bytes) = refl
pair_is high low i (Some h) (Some l) (Err fault) = refl

-- pairs of digits write what the library decodes
pairs_are : (i : ℕ) (s : List ℕ) → bytes_of s ≡ decoded (decode_pairs i s)
unfolding decode_pairs
pairs_are i [] = refl
pairs_are i (odd ∷ []) = refl
pairs_are i (high ∷ low ∷ rest) =
    (λ j. first (joint (digit_is high j) (digit_is low j)) (pairs_are (i + 2) rest j)) ∙ pair_is high low i (hex_digit_value high) (hex_digit_value low) (decode_pairs (i + 2) rest)

-- digits that are odd in number write nothing
odd_none : (s : List ℕ) → length s % 2 ≡ 1 → bytes_of s ≡ None
odd_none [] h = absurd (omega (arith, h))
odd_none (odd ∷ []) h = refl
odd_none (high ∷ low ∷ rest) h = ap (first (joint (digit_of high) (digit_of low))) (odd_none rest (omega (arith, h))) ∙ none_more (joint (digit_of high) (digit_of low))
  where
    none_more : (byte : Option ℕ) → first byte None ≡ None
    none_more None = refl
    none_more (Some byte) = refl

-- digits write what the library decodes
pub bytes_decoded : (s : List ℕ) → bytes_of s ≡ decoded (decode_of s)
bytes_decoded s = by_length (length s % 2 == 1) refl
  where
    by_length : (odd : Bool) → (length s % 2 == 1) ≡ odd → bytes_of s ≡ decoded (if odd then Err OddLength else decode_pairs 0 s)
    by_length true h = odd_none s (eqb-true _ _ h)
    by_length false h = pairs_are 0 s
