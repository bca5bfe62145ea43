-- A reader's answer says which rule is broken first.
use Rattle.std.proofs.Common.{◌≡◌, ℕ, zero, suc, ◌<◌, ◌≤◌, Bool, true, false, ltb, List, Ok, Err, Result, sym, refl, subst, inl, inr, ⊎_elim, arith}
use Rattle.std.proofs.lemmas.Bool.{and_from, ltb-true, ltb-false, cases_Bool, both_ways}
use Rattle.records.specs.declared.PaperKind.{PaperKind}
use Rattle.records.specs.declared.RecordFault.{RecordFault}
use Rattle.records.specs.Papers.{Holds, Exact}
use Rattle.records.specs.Single.{single_in}
use Rattle.setpapers.specs.declared.fault.SetFault.{SetFault}
use Rattle.setpapers.specs.declared.fault.SetFault.TheVariants.{Record, TooMany, BadEntry}
use Rattle.setpapers.specs.Papers.{accepted, answered, Judged, Found}
use Rattle.setpapers.specs.Rows.{all, all_parts, first, verdict}
use Rattle.setpapers.specs.Verdicts.{first_fine, first_bad}

-- ---- the verdict on rows

-- the first place where a test fails
fails : (p : ℕ → Bool) (n : ℕ) → all p n ≡ false → (i : ℕ) × (i < n) × (all p i ≡ true) × (p i ≡ false)
unfolding all
fails p zero e = absurd (both_ways _ e refl)
fails p (suc n) e =
    ⊎_elim
    (λ (a : all p n ≡ true).
    (n, omega arith, a, ⊎_elim (λ (t : p n ≡ true). absurd (both_ways _ e (and_from _ _ a t))) (λ (f : p n ≡ false). f) (cases_Bool (p n))))
    (λ (a : all p n ≡ false). let r = fails p n a in (r.0, omega (arith, r.1), r.2, r.3))
    (cases_Bool (all p n))

-- the rule of an entry, where those before it keep theirs, is what the test tests
module _ (least : ℕ) (p : ℕ → Bool) (P : ℕ → Type 0) (to : (i : ℕ) → all p (suc i) ≡ true → P i) (from : (i : ℕ) → P i → p i ≡ true) (n : ℕ) where
  kept_rule : (m : ℕ) → all p m ≡ true → (i : ℕ) → i < m → P i
  kept_rule zero a i h = absurd (omega arith)
  kept_rule (suc m) a i h =
      ⊎_elim
      (λ (l : ltb i m ≡ true). kept_rule m (all_parts p m a).0 i (ltb-true i m l))
      (λ (l : ltb i m ≡ false). let e : m ≡ i = omega (arith, ltb-false i m l) in to i (subst (λ k. all p (suc k) ≡ true) e a))
      (cases_Bool (ltb i m))

  first_judged : least ≤ n → n ≤ 1024 → Judged least P n (first p n)
  first_judged some few =
      ⊎_elim
      (λ (a : all p n ≡ true). subst (Judged least P n) (sym (first_fine p n a)) (some, few, kept_rule n a))
      (λ (a : all p n ≡ false).
      let r = fails p n a in
      subst (Judged least P n) (sym (first_bad p n r.0 r.2 r.3 r.1))
      (few, inr (r.1, kept_rule r.0 r.2, λ x. both_ways _ r.3 (from r.0 x))))
      (cases_Bool (all p n))

  pub verdict_judged : Judged least P n (verdict least p n)
  verdict_judged =
      ⊎_elim
      (λ (m : ltb 1024 n ≡ true). let v : verdict least p n ≡ Err TooMany = rw m in subst (Judged least P n) (sym v) (ltb-true 1024 n m))
      (λ (m : ltb 1024 n ≡ false).
      ⊎_elim
      (λ (z : ltb n least ≡ true).
      let v : verdict least p n ≡ Err (BadEntry 0) = rw (m, z) in subst (Judged least P n) (sym v) (ltb-false 1024 n m, inl (ltb-true n least z, refl)))
      (λ (z : ltb n least ≡ false).
      let v : verdict least p n ≡ first p n = rw (m, z) in subst (Judged least P n) (sym v) (first_judged (ltb-false n least z) (ltb-false 1024 n m)))
      (cases_Bool (ltb n least)))
      (cases_Bool (ltb 1024 n))

-- ---- papers

abbrev holds_body : Result (List ℕ) RecordFault → Type 0
holds_body (Ok x) = Unit {0}
holds_body (Err e) = ⊥

module _ (kind : PaperKind) (least : ℕ) (count : List ℕ → ℕ) (P : List ℕ → ℕ → Type 0) (paper : List ℕ) where
  of_body : (body : List ℕ) → Holds kind body paper → (v : Result (Unit {0}) SetFault) → Judged least (P body) (count body) v → Found kind least count P paper (answered (accepted body v))
  of_body body h (Ok x) j = (body, h, j)
  of_body body h (Err (Record f)) j = absurd j
  of_body body h (Err TooMany) j = (body, h, j)
  of_body body h (Err (BadEntry i)) j = (body, h, j)

-- what a reader answers of a paper whose body is read, where the verdict on its entries tests their rule
module _ (kind : PaperKind) (least : ℕ) (count : List ℕ → ℕ) (p : List ℕ → ℕ → Bool) (P : List ℕ → ℕ → Type 0)
    (to : (bs : List ℕ) (i : ℕ) → all (p bs) (suc i) ≡ true → P bs i) (from : (bs : List ℕ) (i : ℕ) → P bs i → p bs i ≡ true) (paper : List ℕ) where
  pub verdict_found : (k : PaperKind) (body : List ℕ) (v : Result (Unit {0}) SetFault) → k ≡ kind → Ok body ≡ single_in k paper → Exact k paper (Ok body) → v ≡ verdict least (p body) (count body)
      → Found kind least count P paper (answered (accepted body v))
  verdict_found k body v same is exact said =
      of_body kind least count P paper body (subst (λ m. Holds m body paper) same (exact.accepted body refl)) v
      (subst (Judged least (P body) (count body)) (sym said) (verdict_judged least (p body) (P body) (to body) (from body) (count body)))
