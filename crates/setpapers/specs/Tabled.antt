-- A row as a list.
use Rattle.std.specs.Prelude.{◌≡◌, ℕ, zero, suc, ◌*◌, ◌<◌, ◌≤◌, List, [], ◌∷◌, length, take, drop, Some, slice_get, slice_index_or}
use Rattle.std.proofs.Math.Path.{refl, ap}
use Rattle.std.proofs.Common.{arith}

-- the first n of a row
unfoldable pub table : {A : Type 0} → (ℕ → A) → ℕ → List A
table f zero = []
table f (suc n) = f 0 ∷ table (λ i. f (suc i)) n

module _ {A : Type 0} where
  pub length_table : (f : ℕ → A) (n : ℕ) → length (table f n) ≡ n
  unfolding table
  length_table f zero = refl
  length_table f (suc n) = ap suc (length_table (λ i. f (suc i)) n)

  pub get_or_table : (f : ℕ → A) (n i : ℕ) (d : A) → i < n → slice_index_or (table f n) i d ≡ f i
  unfolding table
  get_or_table f zero i d h = absurd (omega arith)
  get_or_table f (suc n) zero d h = refl
  get_or_table f (suc n) (suc i) d h = get_or_table (λ i. f (suc i)) n i d (omega arith)

  pub take_table : (f : ℕ → A) (n i : ℕ) → i ≤ n → take i (table f n) ≡ table f i
  unfolding table
  take_table f n zero h = refl
  take_table f zero (suc i) h = absurd (omega arith)
  take_table f (suc n) (suc i) h = ap (λ xs. f 0 ∷ xs) (take_table (λ k. f (suc k)) n i (omega arith))

  pub get_table : (f : ℕ → A) (n i : ℕ) → i < n → slice_get (table f n) i ≡ Some (f i)
  unfolding table
  get_table f zero i h = absurd (omega arith)
  get_table f (suc n) zero h = refl
  get_table f (suc n) (suc i) h = get_table (λ k. f (suc k)) n i (omega arith)

-- the entry i of a row of entries of n bytes each
abbrev pub bytes_at : ℕ → List ℕ → ℕ → List ℕ
bytes_at n bs i = take n (drop (i * n) bs)
