-- The plain tree is the one that splits the lowest free variable of each cube that holds a state of the set and is not total.
use Rattle.std.proofs.Common.{◌≡◌, ℕ, zero, suc, ◌+◌, ◌-◌, ◌^◌, ◌<◌, Bool, true, false, not, ltb, sym, refl, ap, subst, inl, inr, ⊎_elim, arith}
use lib.Bits.{bit_or}
use Rattle.std.proofs.lemmas.Bool.{both_ways, cases_lt, cases_order, cond_both, and_left, and_right, le-ltb}
use Rattle.logic.specs.Bit.{bit}
use Rattle.logic.specs.BitLaws.{bit_ones}
use Rattle.logic.specs.Partial.{PartialState, cube_of, whole, is_free}
use Rattle.trees.specs.Tree.{Tree, leaf, split}
use Rattle.judge.specs.Plain.{plain_from, Finds, IsPlain, PlainIsPlain}
use Rattle.judge.proofs.Plainly.{known_more, free_next}

-- a variable below v is known, and from the width up there is none
known_below : (width v x u : ℕ) → u < v → is_free (cube_of width (2 ^ v - 1) x) u ≡ false
known_below width v x u h = and_right (ltb u width) _ (ap not (bit_ones v u h))

total_known : (width v x : ℕ) → v ≡ width → (u : ℕ) → is_free (cube_of width (2 ^ v - 1) x) u ≡ false
total_known width v x is u =
    ⊎_elim
    (λ h. known_below width v x u h)
    (λ h. and_left _ (not (bit u (2 ^ v - 1))) (le-ltb u width (omega (arith, h, is))))
    (cases_lt u v)

module _ (has : ℕ → Bool) (held : PartialState → Bool) (finds : Finds has held) (width : ℕ) where
  is_plain : (left v x : ℕ) → v + left ≡ width → IsPlain has (plain_from held left v (cube_of width (2 ^ v - 1) x)) (cube_of width (2 ^ v - 1) x)
  is_plain zero v x is = inr (total_known width v x (omega arith))
  is_plain (suc left) v x is =
      let c = cube_of width (2 ^ v - 1) x in
      let P : Tree → Type 0 = λ t. IsPlain has t c in
      let Q : ℕ → ℕ → Type 0 = λ k y. IsPlain has (plain_from held left (suc v) (cube_of width k y)) (cube_of width k y) in
      let at : (y : ℕ) → Q (bit_or (2 ^ v - 1) (2 ^ v)) y = λ y. subst (λ k. Q k y) (sym (known_more v)) (is_plain left (suc v) y (omega arith)) in
      cond_both (held c) _ leaf P
      (λ h. (free_next width v x (omega arith), known_below width v x, finds.some c h, at x, at (bit_or x (2 ^ v))))
      (λ h. inl (finds.none c h))

  lowest : (v x u : ℕ) → v < width → is_free (cube_of width (2 ^ v - 1) x) u ≡ true → ((t : ℕ) → t < u → is_free (cube_of width (2 ^ v - 1) x) t ≡ false) → u ≡ v
  lowest v x u h free below =
      ⊎_elim
      (λ same. same)
      (λ apart. ⊎_elim (λ less. absurd (both_ways _ (known_below width v x u less) free)) (λ more. absurd (both_ways _ (below v more) (free_next width v x h))) apart)
      (cases_order u v)

  only_plain : (tree : Tree) (left v x : ℕ) → v + left ≡ width → IsPlain has tree (cube_of width (2 ^ v - 1) x) → tree ≡ plain_from held left v (cube_of width (2 ^ v - 1) x)
  only_plain leaf zero v x is p = refl
  only_plain (split u low high) zero v x is p = absurd (both_ways _ (total_known width v x (omega arith) u) p.0)
  only_plain leaf (suc left) v x is p =
      let c = cube_of width (2 ^ v - 1) x in
      cond_both (held c) _ leaf (λ t. leaf ≡ t)
      (λ h. absurd (⊎_elim (λ none. let m = finds.some c h in none m.0 m.1 m.2) (λ total. both_ways _ (total v) (free_next width v x (omega arith))) p))
      (λ h. refl)
  only_plain (split u low high) (suc left) v x is p =
      let c = cube_of width (2 ^ v - 1) x in
      let same : u ≡ v = lowest v x u (omega arith) p.0 p.1 in
      let q : IsPlain has (split v low high) c = subst (λ z. IsPlain has (split z low high) c) same p in
      let R : Tree → ℕ → ℕ → Type 0 = λ t y k. IsPlain has t (cube_of width k y) in
      let S : Tree → ℕ → ℕ → Type 0 = λ t y k. t ≡ plain_from held left (suc v) (cube_of width k y) in
      let first : S low x (bit_or (2 ^ v - 1) (2 ^ v)) =
      subst (S low x) (sym (known_more v)) (only_plain low left (suc v) x (omega arith) (subst (R low x) (known_more v) q.3)) in
      let y = bit_or x (2 ^ v) in
      let second : S high y (bit_or (2 ^ v - 1) (2 ^ v)) =
      subst (S high y) (sym (known_more v)) (only_plain high left (suc v) y (omega arith) (subst (R high y) (known_more v) q.4)) in
      cond_both (held c) _ leaf (λ t. split u low high ≡ t)
      (λ h i. split (same i) (first i) (second i))
      (λ h. let m = p.2 in absurd (finds.none c h m.0 m.1 m.2))

pub plain_is_plain : (has : ℕ → Bool) (held : PartialState → Bool) → Finds has held → PlainIsPlain has held
plain_is_plain has held finds width tree = (
  only_plain has held finds width tree width 0 0 (omega arith),
  λ is. subst (λ t. IsPlain has t (whole width)) (sym is) (is_plain has held finds width width 0 0 (omega arith)),
)
