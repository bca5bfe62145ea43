-- Chunks of bytes as a row.
use Rattle.std.proofs.Common.{◌≡◌, ℕ, zero, suc, ◌+◌, ◌*◌, ◌<◌, List, ◌∷◌, get_or, take, drop, refl, sym, ap, ◌∙◌, ap₂, add-zero, zero-add, arith, get_or-drop, get_or-take}
use Rattle.std.proofs.lemmas.List.{drop-drop}
use Rattle.std.specs.Simd.{first_chunks}
use Rattle.formulas.specs.Written.{decoded, entry_in}
use Rattle.setpapers.specs.Diagrams.{entry_at}
use Rattle.setpapers.specs.Entries.{child_of, entry_of}
use Rattle.setpapers.specs.FormulaSets.{decoded_at}
use Rattle.setpapers.specs.Lists.{state_of, state_at}
use Rattle.setpapers.specs.Tabled.{table, bytes_at}

-- the chunks from entry m on are those of the row
chunks_from : (n m k : ℕ) (bs : List ℕ) → first_chunks n k (drop (m * n) bs) ≡ table (λ i. bytes_at n bs (m + i)) k
unfolding table
chunks_from n m zero bs = refl
chunks_from n m (suc k) bs =
    let first : take n (drop (m * n) bs) ≡ bytes_at n bs (m + 0) = ap (bytes_at n bs) (sym (add-zero m)) in
    let rest : drop n (drop (m * n) bs) ≡ drop (suc m * n) bs = drop-drop n (m * n) bs ∙ ap (λ a. drop a bs) (omega arith) in
    ap₂ (λ x xs. x ∷ xs) first (ap (first_chunks n k) rest ∙ chunks_from n (suc m) k bs ∙ ap (λ f. table f k) (λ p i. ap (bytes_at n bs) (shift i) p))
  where
    shift : (i : ℕ) → suc m + i ≡ m + suc i
    shift i = omega arith

-- the chunks are the entries of the row
pub chunks_row : (n k : ℕ) (bs : List ℕ) → first_chunks n k bs ≡ table (bytes_at n bs) k
chunks_row n k bs =
    let none : 0 ≡ 0 * n = omega arith in
    let start : bs ≡ drop (0 * n) bs = ap (λ a. drop a bs) none in
    ap (first_chunks n k) start ∙ chunks_from n 0 k bs ∙ ap (λ f. table f k) (λ p i. ap (bytes_at n bs) (zero-add i) p)

module _ (n : ℕ) (bs : List ℕ) (i : ℕ) where
  -- a byte of an entry
  pub entry_byte : (j : ℕ) → j < n → get_or (bytes_at n bs i) j 0 ≡ get_or bs (i * n + j) 0
  entry_byte j h = get_or-take n (drop (i * n) bs) j 0 h ∙ get_or-drop (i * n) bs j 0

-- the state that 8 bytes write
pub state_bytes : (bs : List ℕ) (i : ℕ) → state_of (bytes_at 8 bs i) ≡ state_at bs i
unfolding state_at
state_bytes bs i =
    let b : (j : ℕ) → j < 8 → get_or (bytes_at 8 bs i) j 0 ≡ get_or bs (i * 8 + j) 0 = entry_byte 8 bs i in
    let first : get_or (bytes_at 8 bs i) 0 0 ≡ get_or bs (i * 8) 0 = b 0 (omega arith) ∙ ap (λ a. get_or bs a 0) (add-zero (i * 8)) in
    omega (arith, first, b 1 (omega arith), b 2 (omega arith), b 3 (omega arith), b 4 (omega arith), b 5 (omega arith), b 6 (omega arith), b 7 (omega arith))

-- what the bytes of an entry of five make
five_bytes : {A : Type 0} (f : ℕ → ℕ → ℕ → ℕ → ℕ → A) (bs : List ℕ) (i : ℕ)
    → f (get_or (bytes_at 5 bs i) 0 0) (get_or (bytes_at 5 bs i) 1 0) (get_or (bytes_at 5 bs i) 2 0) (get_or (bytes_at 5 bs i) 3 0) (get_or (bytes_at 5 bs i) 4 0)
    ≡ f (get_or bs (i * 5) 0) (get_or bs (i * 5 + 1) 0) (get_or bs (i * 5 + 2) 0) (get_or bs (i * 5 + 3) 0) (get_or bs (i * 5 + 4) 0)
five_bytes f bs i =
    let b : (j : ℕ) → j < 5 → get_or (bytes_at 5 bs i) j 0 ≡ get_or bs (i * 5 + j) 0 = entry_byte 5 bs i in
    let first : get_or (bytes_at 5 bs i) 0 0 ≡ get_or bs (i * 5) 0 = b 0 (omega arith) ∙ ap (λ a. get_or bs a 0) (add-zero (i * 5)) in
    λ p. f (first p) (b 1 (omega arith) p) (b 2 (omega arith) p) (b 3 (omega arith) p) (b 4 (omega arith) p)

-- the entry that 5 bytes write
pub entry_bytes : (bs : List ℕ) (i : ℕ) → entry_of (bytes_at 5 bs i) ≡ entry_at bs i
unfolding entry_at
entry_bytes = five_bytes (λ v a b c d. record { variable = v; low = child_of (a + b * 256); high = child_of (c + d * 256) })

-- the node that 5 bytes write
pub node_bytes : (bs : List ℕ) (i : ℕ) → entry_in (bytes_at 5 bs i) ≡ decoded_at bs i
unfolding decoded_at
node_bytes = five_bytes (λ tag a b c d. decoded tag (a + b * 256) (c + d * 256))
