-- What a loop over entries finds.
use Rattle.std.specs.Prelude.{◌≡◌, ℕ, zero, suc, ◌<◌, ◌≤◌, Bool, true, false, cond, ltb, Ok, Err, Result, nat_lt}
use Rattle.std.proofs.Math.Path.{refl, ap, subst}
use Rattle.std.proofs.Common.{sym, ◌∙◌, arith}
use Rattle.std.proofs.Math.Logic.{⊎_elim}
use Rattle.std.proofs.lemmas.Bool.{and_from, cases_eq, le-ltb, lt-ltb, ltb-false, cases_Bool}
use Rattle.setpapers.specs.declared.fault.SetFault.{SetFault}
use Rattle.setpapers.specs.declared.fault.SetFault.TheVariants.{TooMany, BadEntry}
use Rattle.setpapers.specs.Rows.{all, all_parts, first, next, verdict}

-- a verdict that accepts
abbrev accepts : Result (Unit {0}) SetFault → Type 0
accepts (Ok x) = Unit {0}
accepts (Err e) = ⊥

-- two verdicts accept where both do
next_parts : (r : Result (Unit {0}) SetFault) (b : Bool) (e : SetFault) → next r (cond b (Ok tt) (Err e)) ≡ Ok tt → (r ≡ Ok tt) × (b ≡ true)
next_parts (Ok x) true e h = (refl, refl)
next_parts (Ok x) false e h = absurd (subst accepts (sym h) tt)
next_parts (Err f) b e h = absurd (subst accepts (sym h) tt)

module _ (p : ℕ → Bool) where
  pub first_fine : (n : ℕ) → all p n ≡ true → first p n ≡ Ok tt
  unfolding first
  first_fine zero a = refl
  first_fine (suc n) a =
      let q = all_parts p n a in
      ap (λ r. next r (cond (p n) (Ok tt) (Err (BadEntry n)))) (first_fine n q.0) ∙ ap (λ b. cond b (Ok tt) (Err (BadEntry n))) q.1

  pub first_bad : (n i : ℕ) → all p i ≡ true → p i ≡ false → i < n → first p n ≡ Err (BadEntry i)
  unfolding first
  first_bad zero i a h l = absurd (omega arith)
  first_bad (suc n) i a h l =
      ⊎_elim
      (λ (e : i ≡ n). subst (λ m. next (first p m) (cond (p m) (Ok tt) (Err (BadEntry m))) ≡ Err (BadEntry i)) e
      (ap (λ r. next r (cond (p i) (Ok tt) (Err (BadEntry i)))) (first_fine i a) ∙ ap (λ b. cond b (Ok tt) (Err (BadEntry i))) h))
      (λ (e : i ≡ n → ⊥). ap (λ r. next r (cond (p n) (Ok tt) (Err (BadEntry n)))) (first_bad n i a h (omega arith)))
      (cases_eq i n)

  first_ok : (n : ℕ) → first p n ≡ Ok tt → all p n ≡ true
  unfolding all first
  first_ok zero h = refl
  first_ok (suc n) h = let q = next_parts (first p n) (p n) (BadEntry n) h in and_from _ _ (first_ok n q.0) q.1

  module _ (least n : ℕ) where
    pub verdict_many : 1024 < n → Err TooMany ≡ verdict least p n
    verdict_many h = rw (lt-ltb 1024 n h)

    pub verdict_lacks : n ≤ 1024 → n < least → Err (BadEntry 0) ≡ verdict least p n
    verdict_lacks few h = rw (le-ltb 1024 n few, lt-ltb n least h)

    module _ (few : n ≤ 1024) (some : least ≤ n) where
      verdict_first : verdict least p n ≡ first p n
      verdict_first = rw (le-ltb 1024 n few, le-ltb n least some)

      pub verdict_fine : all p n ≡ true → Ok tt ≡ verdict least p n
      verdict_fine a = sym (verdict_first ∙ first_fine n a)

      pub verdict_bad : (i : ℕ) → all p i ≡ true → p i ≡ false → i < n → Err (BadEntry i) ≡ verdict least p n
      verdict_bad i a h l = sym (verdict_first ∙ first_bad n i a h l)

    -- what accepted entries have
    pub verdict_ok : verdict least p n ≡ Ok tt → (n ≤ 1024) × (all p n ≡ true)
    verdict_ok h =
        ⊎_elim
        (λ (m : ltb 1024 n ≡ true). let v : verdict least p n ≡ Err TooMany = rw m in absurd (subst accepts (sym h ∙ v) tt))
        (λ (m : ltb 1024 n ≡ false).
        ⊎_elim
        (λ (z : ltb n least ≡ true). let v : verdict least p n ≡ Err (BadEntry 0) = rw (m, z) in absurd (subst accepts (sym h ∙ v) tt))
        (λ (z : ltb n least ≡ false). let v : verdict least p n ≡ first p n = rw (m, z) in (ltb-false 1024 n m, first_ok n (sym v ∙ h)))
        (cases_Bool (nat_lt n least)))
        (cases_Bool (nat_lt 1024 n))
