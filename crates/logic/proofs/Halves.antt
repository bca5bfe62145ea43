-- What a split does to a cube's free variables.
use Rattle.std.proofs.Common.{◌≡◌, ℕ, suc, ◌+◌, ◌*◌, ◌/◌, ◌%◌, ◌^◌, ◌<◌, max, Bool, true, false, not, ltb, sym, refl, ap, ◌∙◌, arith}
use lib.Bits.{bit_and, bit_or, or_step, or_zero_r, or_block, or_lt}
use lib.Count.{ones, ones_step, ones_cat, ones-ones, ones-le}
use Rattle.std.proofs.lemmas.Bool.{and_parts, ltb-true}
use Rattle.std.proofs.lemmas.Nat.{shr_split, mod_below, pow_pos, pow_below}
use Rattle.logic.specs.Bit.{bit}
use Rattle.logic.specs.BitLaws.{bit_none}
use Rattle.logic.specs.Partial.{PartialState, Fine, whole, is_free, free_count, lower, upper}
use Rattle.logic.proofs.Parts.{and_pow, part_without, part_with}

ones_odd : (m : ℕ) → ones (m * 2 + 1) ≡ ones m + 1
ones_odd m = ones_cat 1 m 1 (omega arith) ∙ ap (λ k. ones m + k) (ones-ones 1)

ones_even : (a : ℕ) → a % 2 ≡ 0 → ones (bit_or a 1) ≡ ones a + 1
ones_even a e =
    let set : bit_or a 1 ≡ a / 2 * 2 + 1 = or_step a 1 ∙ (λ i. or_zero_r (a / 2) i * 2 + max (e i) 1) in
    let whole : ones a ≡ ones (a / 2) = ones_step a ∙ omega (arith, e) in
    ap ones set ∙ ones_odd (a / 2) ∙ ap (λ k. k + 1) (sym whole)

-- one bit more
pub ones_set : (n v : ℕ) → n / 2 ^ v % 2 ≡ 0 → ones (bit_or n (2 ^ v)) ≡ ones n + 1
ones_set n v e =
    let a = n / 2 ^ v in
    let r = n % 2 ^ v in
    let small : r < 2 ^ v = mod_below n (2 ^ v) (pow_pos v) in
    let parts : a * 2 ^ v + r ≡ n = shr_split n v in
    let one : 1 * 2 ^ v + 0 ≡ 2 ^ v = omega arith in
    let joined : bit_or n (2 ^ v) ≡ bit_or a 1 * 2 ^ v + r =
    (λ i. bit_or (sym parts i) (sym one i)) ∙ or_block v a 1 r 0 small (pow_pos v) ∙ ap (λ k. bit_or a 1 * 2 ^ v + k) (or_zero_r r) in
    let after : ones (bit_or n (2 ^ v)) ≡ ones (bit_or a 1) + ones r = ap ones joined ∙ ones_cat v (bit_or a 1) r small in
    let before : ones n ≡ ones a + ones r = ap ones (sym parts) ∙ ones_cat v a r small in
    omega (arith, after, before, ones_even a e)

module _ (c : PartialState) (v : ℕ) (fine : Fine c) (free : is_free c v ≡ true) where
  pub below : v < c.width
  below = ltb-true _ _ (and_parts _ _ free).0

  pub unknown : bit v c.known ≡ false
  unknown = go (bit v c.known) (and_parts (ltb v c.width) _ free).1
    where
      go : (b : Bool) → not b ≡ true → b ≡ false
      go true e = sym e
      go false e = refl

  pub clear : c.known / 2 ^ v % 2 ≡ 0
  clear = bit_none v c.known unknown

  pub lacks : bit_and c.known (2 ^ v) ≡ 0
  lacks = and_pow c.known v ∙ ap (λ x. x * 2 ^ v) clear ∙ omega arith

  pub still : bit_or c.known (2 ^ v) < 2 ^ c.width
  still = or_lt c.width c.known (2 ^ v) fine.inside (pow_below v c.width below)

  pub fine_lower : Fine (lower c v)
  fine_lower = record { inside = still; part = part_without c.value c.known (2 ^ v) fine.part lacks }

  pub fine_upper : Fine (upper c v)
  fine_upper = record { inside = still; part = part_with c.value c.known (2 ^ v) fine.part lacks }

  pub fewer : free_count c ≡ suc (free_count (lower c v))
  fewer = omega (arith, ones_set c.known v clear, ones-le c.width (bit_or c.known (2 ^ v)) still)

-- all the states
pub fine_whole : (width : ℕ) → Fine (whole width)
fine_whole width = record { inside = pow_pos width; part = refl }
