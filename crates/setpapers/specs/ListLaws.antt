-- A list of states keeps the laws of a set.
use Rattle.std.specs.Prelude.{◌≡◌, ℕ, ◌^◌, true, false, cond, List, ◌==◌, ◌≢◌}
use Rattle.std.proofs.Common.{sym, ap, subst, ⊎_elim, arith}
use Rattle.std.proofs.lemmas.Bool.{both_ways, eq-eqb, ne_eqb, cond-true, cond-false, cases_eq, cases_Bool}
use Rattle.logic.specs.Partial.{PartialState, Fine, In, free_count, holds_state}
use Rattle.logic.specs.declared.truth.Truth.{Truth}
use Rattle.logic.specs.declared.truth.Truth.TheVariants.{True as Inside, False as Outside, Open}
use Rattle.sets.specs.Layers.{laws_at}
use Rattle.sets.specs.Points.{total_free}
use Rattle.sets.specs.Sets.{Laws, Claims, Total}
use Rattle.setpapers.specs.Count.{tally, rising, listed}
use Rattle.setpapers.specs.Counted.{tally_full, tally_none, tally_le, listed_within}
use Rattle.setpapers.specs.Lists.{states, state_at, list_has, list_says, list_answer}

-- e is a row of n entries, rising at the width of the cube
module _ (e : ℕ → ℕ) (n : ℕ) (c : PartialState) (fine : Fine c) (r : rising c.width e n ≡ true) where
  none_listed : tally (holds_state c) e n ≡ 0 → (x : ℕ) → In c x → listed e n x ≡ false
  none_listed z x i =
      ⊎_elim (λ l. absurd (both_ways _ (tally_none e (holds_state c) n z x l) (eq-eqb _ _ i.agrees))) (λ f. f) (cases_Bool (listed e n x))

  all_listed : tally (holds_state c) e n ≡ 2 ^ free_count c → (x : ℕ) → In c x → listed e n x ≡ true
  all_listed s x i = tally_full c.width e n c.known c.value r fine.inside fine.part s x i.below (eq-eqb _ _ i.agrees)

  not_total : (tally (holds_state c) e n ≢ 0) → (tally (holds_state c) e n ≢ 2 ^ free_count c) → Total c → ⊥
  not_total z s t =
      let most = tally_le c.width e n c.known c.value r fine.inside fine.part in
      s (omega (arith, most, z, ap (λ m. 2 ^ m) (total_free c t)))

  list_claims : Claims (list_says e n c) (listed e n) c
  list_claims =
      let t = tally (holds_state c) e n in
      let m = 2 ^ free_count c in
      let P : Truth → Type 0 = λ a. Claims a (listed e n) c in
      ⊎_elim
      (λ (z : t ≡ 0). subst P (sym (cond-true (t == 0) Outside (cond (t == m) Inside Open) (eq-eqb t 0 z))) (none_listed z))
      (λ (z : t ≡ 0 → ⊥). subst P (sym (cond-false (t == 0) Outside (cond (t == m) Inside Open) (ne_eqb t 0 z)))
      (⊎_elim
      (λ (s : t ≡ m). subst P (sym (cond-true (t == m) Inside Open (eq-eqb t m s))) (all_listed s))
      (λ (s : t ≡ m → ⊥). subst P (sym (cond-false (t == m) Inside Open (ne_eqb t m s))) (not_total z s))
      (cases_eq t m)))
      (cases_eq t 0)

-- a list is a set
pub list_laws : (w : ℕ) (bs : List ℕ) → rising w (state_at bs) (states bs) ≡ true → Laws w (list_has bs) (list_answer w bs)
list_laws w bs r =
    laws_at w (list_has bs) (list_says (state_at bs) (states bs))
    (λ x h. listed_within w (state_at bs) (states bs) x r h)
    (λ c fine e. list_claims (state_at bs) (states bs) c fine (subst (λ v. rising v (state_at bs) (states bs) ≡ true) (sym e) r))
