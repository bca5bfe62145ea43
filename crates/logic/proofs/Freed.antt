-- A variable freed, on whole words.
use Rattle.std.proofs.Common.{◌≡◌, ℕ, ◌-◌, ◌*◌, ◌%◌, ◌^◌, ◌<◌, ◌≤◌, Bool, true, false, cond, not, ◌&&◌, eqb, ◌⊎◌, sym, refl, ap, ◌∙◌, ap₂, inl, inr, arith}
use lib.Bits.{bit_and}
use Rattle.std.proofs.lemmas.Nat.{one_shl, pow_below}
use Rattle.std.proofs.lemmas.Bool.{cases_lt, ne_eqb}
use Rattle.logic.specs.declared.truth.Truth.TheVariants.{Open}
use Rattle.logic.specs.Bit.{bit}
use Rattle.logic.specs.BitLaws.{bit-bit_and, bit_not, bit_power, bit_high, bits_lt, and_part, part_known}
use Rattle.logic.specs.Contained.{cube_from_lem}
use Rattle.logic.specs.Kleene.{given}
use Rattle.logic.specs.Partial.{PartialState, Fine, cube_of, truth, freed}

-- `word & !w`, at any bit
bit_without : (word w u : ℕ) → word < 2 ^ 64 → w < 2 ^ 64 → bit u (bit_and word ((2 ^ 64 - 1) - w)) ≡ (bit u word && not (bit u w))
bit_without word w u h k = bit-bit_and u word ((2 ^ 64 - 1) - w) ∙ go (cases_lt u 64)
  where
    go : (u < 64) ⊎ (64 ≤ u) → (bit u word && bit u ((2 ^ 64 - 1) - w)) ≡ (bit u word && not (bit u w))
    go (inl l) = ap (λ x. bit u word && x) (bit_not 64 u w k l)
    go (inr l) = rw (bit_high 64 u word h l)

-- `word & !(1 << v)`
pub bit_clear : (word v u : ℕ) → word < 2 ^ 64 → v < 64 → bit u (bit_and word ((2 ^ 64 - 1) - (1 * 2 ^ v) % 2 ^ 64)) ≡ cond (eqb u v) false (bit u word)
bit_clear word v u h k =
    ap (λ x. bit u (bit_and word ((2 ^ 64 - 1) - x))) (one_shl v 64 k) ∙ bit_without word (2 ^ v) u h (pow_below v 64 k)
    ∙ ap (λ t. bit u word && not t) (bit_power u v) ∙ go (bit u word) (eqb u v)
  where
    go : (x t : Bool) → (x && not t) ≡ cond t false x
    go true true = refl
    go true false = refl
    go false true = refl
    go false false = refl

-- nothing changes at a variable beyond the width
pub freed_same : (c : PartialState) → Fine c → (v : ℕ) → c.width ≤ v → c ≡ freed c v
freed_same c fine v far = cube_from_lem c fine _ (λ u h. sym (ap (λ t. cond t Open (truth c u)) (ne_eqb u v (λ e. absurd (omega arith)))))

-- the words without the bit v
module _ (c : PartialState) (fine : Fine c) (v known value : ℕ) (small : known < 2 ^ 64) (low : value < 2 ^ 64)
    (ks : (u : ℕ) → bit u known ≡ cond (eqb u v) false (bit u c.known)) (vs : (u : ℕ) → bit u value ≡ cond (eqb u v) false (bit u c.value)) where
  kept : (t x : Bool) → x ≡ false → cond t false x ≡ false
  kept true x e = refl
  kept false x e = e

  both : (t x y : Bool) → (x ≡ true → y ≡ true) → cond t false x ≡ true → cond t false y ≡ true
  both true x y f e = e
  both false x y f e = f e

  pub freed_fine : Fine (cube_of c.width known value)
  freed_fine = record {
    inside = bits_lt 64 c.width known small (λ u h. ks u ∙ kept (eqb u v) (bit u c.known) (bit_high c.width u c.known fine.inside h));
    part =
        and_part 64 value known low
        (λ u h e. ks u ∙ both (eqb u v) (bit u c.value) (bit u c.known) (part_known c.value c.known u fine.part) (sym (vs u) ∙ e));
  }

  pub freed_is : cube_of c.width known value ≡ freed c v
  freed_is = cube_from_lem (cube_of c.width known value) freed_fine _ (λ u h. ap₂ (λ k x. cond k (given x) Open) (ks u) (vs u) ∙ go (eqb u v) (bit u c.known) (bit u c.value))
    where
      go : (t k x : Bool) → cond (cond t false k) (given (cond t false x)) Open ≡ cond t Open (cond k (given x) Open)
      go true k x = refl
      go false k x = refl
