-- An entry and those before it, and what a test of it tells.
use Rattle.std.specs.Prelude.{◌≡◌, ℕ, ◌<◌, ◌≤◌, Bool, true, List}
use Rattle.setpapers.specs.Tabled.{table}

-- the first i of at most 1024 entries in a row, and the entry i
pub record Follows {E : Type 0} (row : ℕ → E) (n i : ℕ) (before : List E) (entry : E) : Type 0 where
  pub few : n ≤ 1024
  pub inside : i < n
  pub firsts : before ≡ table row i
  pub here : entry ≡ row i

-- the answer is that of the test; where it passes, so much is remembered
pub record Judges (test answer : Bool) (Remembered : Type 0) : Type 0 where
  pub tested : answer ≡ test
  pub remembered : answer ≡ true → Remembered
