-- The cube of one state, on whole words.
use Rattle.std.proofs.Common.{◌≡◌, ℕ, ◌-◌, ◌%◌, ◌^◌, ◌<◌, sym, ap, ◌∙◌, arith, pow_pos}
use lib.Bits.{bit_and, and_le_r, and_mask}
use Rattle.std.proofs.lemmas.Bool.{and_parts}
use Rattle.logic.specs.BitLaws.{bit-bit_and, and_part}
use Rattle.logic.specs.Partial.{Fine, cube_of, single}

module _ (w full s : ℕ) (is : full ≡ 2 ^ w - 1) where
  pub full_fine : Fine (cube_of w full (bit_and s full))
  full_fine =
      let inside : full < 2 ^ w = omega (arith, pow_pos w) in
      record {
        inside = inside;
        part = and_part w (bit_and s full) full (omega (arith, and_le_r s full)) (λ v h e. (and_parts _ _ (sym (bit-bit_and v s full) ∙ e)).1);
      }

  pub full_is : cube_of w full (bit_and s full) ≡ single w (s % 2 ^ w)
  full_is = λ i. cube_of w (is i) ((ap (bit_and s) is ∙ and_mask s w) i)
