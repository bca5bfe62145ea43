-- What the tests of the list tell.
use Rattle.std.specs.Prelude.{MatchOption, IsTrue, slice_get, count_by}
use Rattle.std.specs.Option.{option_copied}
use Rattle.std.proofs.Common.{◌≡◌, ℕ, zero, suc, ◌-◌, Bool, true, false, ◌+◌, ltb, Some, None, Option, Bor, length, ap, ap₂, subst, ◌*◌, ◌%◌, ◌^◌, ◌<◌, ◌≤◌, cond, eqb, List, sym, refl, ◌∙◌, arith, pow_mono}
use Rattle.std.proofs.lemmas.Bool.{ne_eqb, cond-false}
use Rattle.std.proofs.lemmas.List.Sums.{sum_by-cons}
use Rattle.logic.specs.Words.{digit}
use Rattle.logic.specs.Partial.{PartialState, free_count, holds_state}
use Rattle.logic.specs.declared.truth.Truth.TheVariants.{True as Inside, False as Outside, Open}
use Rattle.setpapers.specs.Count.{tally, above}
use Rattle.setpapers.specs.Following.{Follows}
use Rattle.setpapers.specs.Counted.{tally_bound}
use Rattle.setpapers.specs.Lists.{states, state_of, state_at, list_says}
use Rattle.setpapers.specs.Tabled.{table, bytes_at, length_table, get_table}
use Rattle.setpapers.proofs.Chunks.{state_bytes}

-- some of the cube's states are listed, and not all
pub open_said : (bs : List ℕ) (c : PartialState) → (tally (holds_state c) (state_at bs) (states bs) ≡ 0 → ⊥) → (tally (holds_state c) (state_at bs) (states bs) ≡ 2 ^ free_count c → ⊥) → Open ≡ list_says (state_at bs) (states bs) c
open_said bs c some full =
    let t = tally (holds_state c) (state_at bs) (states bs) in
    let m = 2 ^ free_count c in
    sym (cond-false (eqb t 0) Outside (cond (eqb t m) Inside Open) (ne_eqb t 0 some) ∙ cond-false (eqb t m) Inside Open (ne_eqb t m full))

-- a cube of more than 10 free variables has more states than a list
pub too_wide : (bs : List ℕ) (c : PartialState) → states bs ≤ 1024 → 10 < free_count c → tally (holds_state c) (state_at bs) (states bs) ≡ 2 ^ free_count c → ⊥
too_wide bs c few wide same =
    let eleven : 2 ^ 11 ≡ 2048 = refl in
    let big : 2 ^ 11 ≤ 2 ^ free_count c = pow_mono wide in
    absurd (omega (arith, tally_bound (state_at bs) (holds_state c) (states bs)))

-- a small power of 2 is a word
pub power_word : (g : ℕ) → g ≤ 10 → 2 ^ g ≡ 1 * 2 ^ g % 18446744073709551616
power_word g h =
    let ten : 2 ^ 10 ≡ 1024 = refl in
    let small : 2 ^ g ≤ 2 ^ 10 = pow_mono h in
    omega arith

-- an option that has this
abbrev has_it : {A : Type 0} → A → Option A → Type 0
has_it x None = ⊥
has_it x (Some y) = x ≡ y

-- the last of the first entries, if there is one
last_of : {A : Type 0} (row : ℕ → A) (j : ℕ) (before : List A) → before ≡ table row (suc j) → slice_get before (length before - 1) ≡ Some (row j)
last_of row j before is =
    let count : length before - 1 ≡ j = omega (arith, ap length is, length_table row (suc j)) in
    ap₂ slice_get is count ∙ get_table row (suc j) j (omega arith)

module _ (bs : List ℕ) (before : List (List ℕ)) (entry : List ℕ) where
  pub entry_is : (i : ℕ) → Follows (bytes_at 8 bs) (states bs) i before entry → state_of entry ≡ state_at bs i
  entry_is i f = ap state_of f.here ∙ state_bytes bs i

  -- the entry is above the last one before it
  pub last_above : (i : ℕ) → Follows (bytes_at 8 bs) (states bs) i before entry → (last : Option (Bor (List ℕ))) (r : Bool)
      → option_copied last ≡ slice_get before (length before - 1) → MatchOption last (IsTrue r) (λ x. r ≡ ltb (state_of x.now) (state_of entry)) → r ≡ above (state_at bs) i
  unfolding table
  last_above zero f None r e m = m
  last_above zero f (Some x) r e m = absurd (subst (has_it x.now) (e ∙ ap (λ xs. slice_get xs (length before - 1)) f.firsts) refl)
  last_above (suc j) f None r e m = absurd (subst (has_it (bytes_at 8 bs j)) (sym (e ∙ last_of (bytes_at 8 bs) j before f.firsts)) refl)
  last_above (suc j) f (Some x) r e m =
      let was : x.now ≡ bytes_at 8 bs j = subst (has_it x.now) (e ∙ last_of (bytes_at 8 bs) j before f.firsts) refl in
      m ∙ ap₂ ltb (ap state_of was ∙ state_bytes bs j) (entry_is (suc j) f)

-- ---- counting

-- the first of a row, counted by itself
tally_first : (p : ℕ → Bool) (e : ℕ → ℕ) (n : ℕ) → tally p e (suc n) ≡ digit (p (e 0)) + tally p (λ i. e (suc i)) n
unfolding tally
tally_first p e zero = omega arith
tally_first p e (suc n) = omega (arith, tally_first p e n)

-- a test as a number
choice_digit : (b : Bool) → cond {A = ℕ} b 1 0 ≡ digit b
choice_digit true = refl
choice_digit false = refl

-- how many entries of a row pass, where a test of each is one of what it stands for
tally_row : {A : Type 0} (q : A → Bool) (row : ℕ → A) (p : ℕ → Bool) (e : ℕ → ℕ) → ((i : ℕ) → q (row i) ≡ p (e i)) → (n : ℕ) → count_by q (table row n) ≡ tally p e n
unfolding tally table
tally_row q row p e same zero = refl
tally_row q row p e same (suc n) =
    let rest = tally_row q (λ i. row (suc i)) p (λ i. e (suc i)) (λ i. same (suc i)) n in
    let step : count_by q (table row (suc n)) ≡ cond {A = ℕ} (q (row 0)) 1 0 + count_by q (table (λ i. row (suc i)) n) = sum_by-cons (λ x. cond {A = ℕ} (q x) 1 0) (row 0) (table (λ i. row (suc i)) n) in
    omega (arith, step, rest, tally_first p e n, choice_digit (q (row 0)), ap digit (same 0))

-- how many of the listed states pass
pub count_listed : (p : ℕ → Bool) (bs : List ℕ) (rows : List (List ℕ)) → rows ≡ table (bytes_at 8 bs) (states bs) → count_by (λ xs. p (state_of xs)) rows ≡ tally p (state_at bs) (states bs)
count_listed p bs rows is =
    ap (count_by (λ xs. p (state_of xs))) is ∙ tally_row (λ xs. p (state_of xs)) (bytes_at 8 bs) p (state_at bs) (λ i. ap p (state_bytes bs i)) (states bs)
