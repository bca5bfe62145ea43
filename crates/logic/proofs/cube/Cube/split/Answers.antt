use Rattle.std.proofs.Common.{◌≡◌, ℕ, ◌*◌, ◌%◌, ◌^◌, true, sym, ◌∙◌, subst, arith}
use lib.Bits.{bit_or}
use Rattle.std.proofs.lemmas.Nat.{one_shl}
use Rattle.logic.specs.declared.cube.Cube.{Cube}
use Rattle.logic.specs.Partial.{Fine, cube_of, is_free}
use Rattle.logic.specs.Views.{partial, fine}
use Rattle.logic.proofs.Halves.{below, fine_lower, fine_upper}
use Rattle.logic.proofs.cube.Cube.split.Goals as goal

-- the bit of a free variable, as the code has it
module _ (self : Cube) (v : ℕ) (free : is_free (partial self) v ≡ true) where
  shifted : (1 * 2 ^ v) % 2 ^ 64 ≡ 2 ^ v
  shifted = one_shl v 64 (omega (arith, below (partial self) v (fine self) free, self.narrow))

  low_fine : Fine (cube_of self.width (bit_or self.known ((1 * 2 ^ v) % 2 ^ 64)) self.value)
  low_fine = subst (λ (p : ℕ). Fine (cube_of self.width (bit_or self.known p) self.value)) (sym shifted) (fine_lower (partial self) v (fine self) free)

  high_fine : Fine (cube_of self.width (bit_or self.known ((1 * 2 ^ v) % 2 ^ 64)) (bit_or self.value ((1 * 2 ^ v) % 2 ^ 64)))
  high_fine = subst (λ (p : ℕ). Fine (cube_of self.width (bit_or self.known p) (bit_or self.value p))) (sym shifted) (fine_upper (partial self) v (fine self) free)

pub invariant_of-low : goal.invariant_of-low
invariant_of-low c =
    let f = low_fine c.args.self c.args.v (sym c.is_free.ensures ∙ c.if-not-is_free.false) in
    record { narrow = c.args.self.narrow; within = f.inside; part = f.part }

pub invariant_of-high : goal.invariant_of-high
invariant_of-high c =
    let f = high_fine c.args.self c.args.v (sym c.is_free.ensures ∙ c.if-not-is_free.false) in
    record { narrow = c.args.self.narrow; within = f.inside; part = f.part }
