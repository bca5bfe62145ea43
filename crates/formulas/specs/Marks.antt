-- The marks of the nodes that have been named.
use Rattle.std.specs.Prelude.{◌≡◌, ℕ, ◌<◌, Bool, true, false, cond, not, List, length, nat_lt, slice_index_or, slice_set}
use Rattle.formulas.specs.Names.{among, clash, claimed}

-- the marks with one more, where there is a mark of that number
abbrev pub marked : List Bool → ℕ → List Bool
marked marks j = cond (nat_lt j 1024) (slice_set marks j true) marks

-- whether there is a mark of that number, and it is not set
abbrev pub free : List Bool → ℕ → Bool
free marks j = not (slice_index_or marks j true)

-- of the numbers below 1024 those in ns are marked
pub record Marks (marks : List Bool) (ns : List ℕ) : Type 0 where
  pub size : length marks ≡ 1024
  pub marked : (j : ℕ) → j < 1024 → slice_index_or marks j false ≡ among j ns

-- the answer says whether each of cs is named for the first time; then they are marked
pub record Claimed (after : List Bool) (cs : List ℕ) (answer : Bool) (ns : List ℕ) : Type 0 where
  pub fresh : answer ≡ not (clash ns cs)
  pub marks : answer ≡ true → Marks after (claimed ns cs)
