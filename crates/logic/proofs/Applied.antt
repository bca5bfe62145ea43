-- A cube after a change, on whole words.
use Rattle.std.proofs.Common.{◌≡◌, ℕ, ◌-◌, ◌^◌, ◌<◌, ◌≤◌, Bool, true, false, cond, not, ◌&&◌, ◌||◌, refl, ap, ◌∙◌, ap₂, lt_of_le_of_lt, arith, pow_pos}
use lib.Bits.{bit_and, bit_or, and_le_r}
use Rattle.std.proofs.lemmas.Bool.{false≢true, or_left}
use Rattle.logic.specs.declared.truth.Truth.{Truth}
use Rattle.logic.specs.declared.truth.Truth.TheVariants.{True, False, Open}
use Rattle.logic.specs.Bit.{bit}
use Rattle.logic.specs.Kleene.{not3, and3, or3, given, sure, maybe}
use Rattle.logic.specs.Partial.{Fine, cube_of, seen}
use Rattle.logic.specs.BitLaws.{and_true, bit-bit_and, bit-bit_or, bit_not, bit_ones, and_part, part_known}

-- the value and the known bits of one variable, where S and C are the truths of its being set and cleared
abbrev val : Truth → Truth → Bool → Bool
val S C V = sure S || (V && not (maybe C))

abbrev kno : Truth → Truth → Bool → Bool → Bool
kno S C K V = val S C V || (not (maybe S) && ((K && not V) || sure C))

one_bit : (S C : Truth) (K V : Bool) → (V ≡ true → K ≡ true) → cond (kno S C K V) (given (val S C V)) Open ≡ or3 S (and3 (cond K (given V) Open) (not3 C))
one_bit True C K V h = refl
one_bit False True true true h = refl
one_bit False True true false h = refl
one_bit False True false true h = absurd (false≢true (h refl))
one_bit False True false false h = refl
one_bit False False true true h = refl
one_bit False False true false h = refl
one_bit False False false true h = absurd (false≢true (h refl))
one_bit False False false false h = refl
one_bit False Open true true h = refl
one_bit False Open true false h = refl
one_bit False Open false true h = absurd (false≢true (h refl))
one_bit False Open false false h = refl
one_bit Open True true true h = refl
one_bit Open True true false h = refl
one_bit Open True false true h = absurd (false≢true (h refl))
one_bit Open True false false h = refl
one_bit Open False true true h = refl
one_bit Open False true false h = refl
one_bit Open False false true h = absurd (false≢true (h refl))
one_bit Open False false false h = refl
one_bit Open Open true true h = refl
one_bit Open Open true false h = refl
one_bit Open Open false true h = absurd (false≢true (h refl))
one_bit Open Open false false h = refl

abbrev pub new_value : (full value sm cy : ℕ) → ℕ
new_value full value sm cy = bit_and (bit_or sm (bit_and value ((2 ^ 64 - 1) - cy))) full

abbrev pub new_known : (full known value sm sy cm cy : ℕ) → ℕ
new_known full known value sm sy cm cy =
    bit_and (bit_or (new_value full value sm cy) (bit_and ((2 ^ 64 - 1) - sy) (bit_or (bit_and known ((2 ^ 64 - 1) - value)) cm))) full

module _ (w full known value sm sy cm cy : ℕ) (narrow : w ≤ 64) (is : full ≡ 2 ^ w - 1) where
  new_within : new_known full known value sm sy cm cy < 2 ^ w
  new_within = let p = pow_pos w in let l = and_le_r (bit_or (new_value full value sm cy) (bit_and ((2 ^ 64 - 1) - sy) (bit_or (bit_and known ((2 ^ 64 - 1) - value)) cm))) full in omega arith

  new_part : bit_and (new_value full value sm cy) (new_known full known value sm sy cm cy) ≡ new_value full value sm cy
  new_part = let p = pow_pos w in let l : new_value full value sm cy < 2 ^ w = lt_of_le_of_lt (and_le_r _ full) (omega arith) in
      and_part w (new_value full value sm cy) _ l
      (λ v k e. bit-bit_and v _ full ∙ ap₂ (λ x y. x && y) (bit-bit_or v (new_value full value sm cy) _ ∙ or_left _ _ e) (ap (bit v) is ∙ bit_ones w v k))

  pub new_fine : Fine (cube_of w (new_known full known value sm sy cm cy) (new_value full value sm cy))
  new_fine = record { inside = new_within; part = new_part }

  module _ (v : ℕ) (S C : Truth) (below : v < w) (part : bit_and value known ≡ value) (fv : value < 2 ^ 64) (fs : sy < 2 ^ 64) (fc : cy < 2 ^ 64)
      (esm : bit v sm ≡ sure S) (esy : bit v sy ≡ maybe S) (ecm : bit v cm ≡ sure C) (ecy : bit v cy ≡ maybe C) where
    masked : (x : ℕ) → bit v (bit_and x full) ≡ bit v x
    masked x = bit-bit_and v x full ∙ ap (λ y. bit v x && y) (ap (bit v) is ∙ bit_ones w v below) ∙ and_true (bit v x)

    flipped : (x : ℕ) → x < 2 ^ 64 → bit v ((2 ^ 64 - 1) - x) ≡ not (bit v x)
    flipped x h = bit_not 64 v x h (omega arith)

    bit_value : bit v (new_value full value sm cy) ≡ val S C (bit v value)
    bit_value = simp (masked, bit-bit_or, bit-bit_and, flipped cy fc, esm, ecy)

    bit_known : bit v (new_known full known value sm sy cm cy) ≡ kno S C (bit v known) (bit v value)
    bit_known = masked _ ∙ bit-bit_or v (new_value full value sm cy) _ ∙ ap₂ (λ x y. x || y) bit_value (simp (bit-bit_or, bit-bit_and, flipped sy fs, flipped value fv, esy, ecm))

    pub new_seen : seen (new_known full known value sm sy cm cy) (new_value full value sm cy) v ≡ or3 S (and3 (seen known value v) (not3 C))
    new_seen = ap₂ (λ k x. cond k (given x) Open) bit_known bit_value ∙ one_bit S C (bit v known) (bit v value) (part_known value known v part)
