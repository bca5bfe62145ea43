-- Lawful trees cover their cube.
use Rattle.std.proofs.Common.{◌≡◌, ℕ, zero, suc, ◌+◌, ◌*◌, ◌/◌, ◌%◌, ◌^◌, ◌<◌, Bool, ◌⊎◌, List, [], ◌∷◌, length, refl, ap, ◌∙◌, subst, inl, inr, ⊎_elim, arith}
use lib.Bits.{bit_and, bit_or, or_zero_r}
use Rattle.std.proofs.lemmas.Nat.{mod_below}
use Rattle.logic.specs.Partial.{PartialState, Fine, Holds, In, lower, upper}
use Rattle.logic.proofs.Parts.{and_or, and_pow}
use Rattle.logic.proofs.Halves.{fine_lower, fine_upper}
use Rattle.trees.specs.Tree.{Tree, leaf, split, Lawful, LawfulEach, Proves}
use Rattle.trees.specs.Covers.{Settled, EachCovers}

digit : (x : ℕ) → x < 2 → (x ≡ 0) ⊎ (x ≡ 1)
digit zero h = inl refl
digit (suc zero) h = inr refl
digit (suc (suc x)) h = absurd (omega arith)

-- a state of a cube lies in one of its halves
halves : (c : PartialState) (v s : ℕ) → Holds c s → Holds (lower c v) s ⊎ Holds (upper c v) s
halves c v s h =
    let both : bit_and s (bit_or c.known (2 ^ v)) ≡ bit_or c.value (s / 2 ^ v % 2 * 2 ^ v) = and_or s c.known (2 ^ v) ∙ (λ i. bit_or (h i) (and_pow s v i)) in
    ⊎_elim
    (λ e. let none : s / 2 ^ v % 2 * 2 ^ v ≡ 0 = ap (λ d. d * 2 ^ v) e ∙ omega arith in inl (both ∙ ap (bit_or c.value) none ∙ or_zero_r c.value))
    (λ e. let one : s / 2 ^ v % 2 * 2 ^ v ≡ 2 ^ v = ap (λ d. d * 2 ^ v) e ∙ omega arith in inr (both ∙ ap (bit_or c.value) one))
    (digit (s / 2 ^ v % 2) (mod_below (s / 2 ^ v) 2 (omega arith)))

covered : (settled : PartialState → Bool) (tree : Tree) (c : PartialState) → Fine c → Lawful settled tree c → (s : ℕ) → s < 2 ^ c.width → Holds c s → Settled settled c.width s
covered settled leaf c fine good s below h = record { cube = c; wide = refl; fine = fine; state = record { below = below; agrees = h }; good = good }
covered settled (split v low high) c fine good s below h =
    ⊎_elim
    (λ l. covered settled low (lower c v) (fine_lower c v fine good.0) good.1 s below l)
    (λ l. covered settled high (upper c v) (fine_upper c v fine good.0) good.2 s below l)
    (halves c v s h)

module _ (settles : ℕ → PartialState → Bool) (c : PartialState) (fine : Fine c) where
  each_covers : (trees : List Tree) (rule : ℕ) → LawfulEach settles rule trees c → (i : ℕ) → i < length trees → (s : ℕ) → In c s → Settled (settles (rule + i)) c.width s
  each_covers [] rule good i h s at = absurd (omega arith)
  each_covers (tree ∷ trees) rule good zero h s at =
      let same : rule ≡ rule + 0 = omega arith in
      subst (λ k. Settled (settles k) c.width s) same (covered (settles rule) tree c fine good.0 s at.below at.agrees)
  each_covers (tree ∷ trees) rule good (suc i) h s at =
      let same : suc rule + i ≡ rule + suc i = omega arith in
      subst (λ k. Settled (settles k) c.width s) same (each_covers trees (suc rule) good.1 i (omega arith) s at)

  pub proof_covers : (body : List ℕ) (count : ℕ) → Proves settles body c count → EachCovers settles c count
  proof_covers body count p i h s at =
      let same : 0 + i ≡ i = omega arith in
      subst (λ k. Settled (settles k) c.width s) same (each_covers p.trees 0 p.lawful i (omega (arith, h, p.number)) s at)
