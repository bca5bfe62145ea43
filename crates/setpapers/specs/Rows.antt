-- Rows of entries, and the verdict on them.
use Rattle.std.specs.Prelude.{◌≡◌, ℕ, zero, suc, ◌+◌, ◌<◌, Bool, true, cond, ◌&&◌, Ok, Err, Result, nat_lt}
use Rattle.std.proofs.Math.Path.{refl}
use Rattle.std.proofs.Common.{ap, ◌∙◌, ⊎_elim, add-one, arith}
use Rattle.std.proofs.lemmas.Bool.{and_parts, and_from, cases_eq}
use Rattle.setpapers.specs.declared.fault.SetFault.{SetFault}
use Rattle.setpapers.specs.declared.fault.SetFault.TheVariants.{TooMany, BadEntry}

-- whether each of the first n entries passes
unfoldable pub all : (ℕ → Bool) → ℕ → Bool
all p zero = true
all p (suc n) = all p n && p n

-- the second verdict, unless the first is a refusal
abbrev pub next : Result (Unit {0}) SetFault → Result (Unit {0}) SetFault → Result (Unit {0}) SetFault
next (Ok x) s = s
next (Err e) s = Err e

-- the first of n entries that does not pass
unfoldable pub first : (ℕ → Bool) → ℕ → Result (Unit {0}) SetFault
first p zero = Ok tt
first p (suc n) = next (first p n) (cond (p n) (Ok tt) (Err (BadEntry n)))

-- the verdict on n entries: at most 1024, at least so many, each passes
abbrev pub verdict : ℕ → (ℕ → Bool) → ℕ → Result (Unit {0}) SetFault
verdict least p n = cond (nat_lt 1024 n) (Err TooMany) (cond (nat_lt n least) (Err (BadEntry 0)) (first p n))

module _ (p : ℕ → Bool) where
  pub all_none : all p 0 ≡ true
  unfolding all
  all_none = refl

  pub all_suc : (n : ℕ) → all p n ≡ true → p n ≡ true → all p (suc n) ≡ true
  unfolding all
  all_suc n a h = and_from _ _ a h

  pub all_more : (n : ℕ) → all p n ≡ true → p n ≡ true → all p (n + 1) ≡ true
  all_more n a h = ap (all p) (add-one n) ∙ all_suc n a h

  pub all_parts : (n : ℕ) → all p (suc n) ≡ true → (all p n ≡ true) × (p n ≡ true)
  unfolding all
  all_parts n a = and_parts (all p n) (p n) a

  pub all_at : (n : ℕ) → all p n ≡ true → (i : ℕ) → i < n → p i ≡ true
  all_at zero a i h = absurd (omega arith)
  all_at (suc n) a i h =
      let q = all_parts n a in
      ⊎_elim (λ (e : i ≡ n). ap p e ∙ q.1) (λ (e : i ≡ n → ⊥). all_at n q.0 i (omega arith)) (cases_eq i n)
