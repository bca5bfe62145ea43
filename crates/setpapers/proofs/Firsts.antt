-- The entries that a loop goes through.
use Rattle.std.proofs.Common.{◌≡◌, ℕ, ◌<◌, ◌≤◌, List, length, get_or, take, ap, ◌∙◌, arith}
use Rattle.setpapers.specs.Following.{Follows}
use Rattle.setpapers.specs.Tabled.{table, length_table, get_or_table, take_table}

module _ {E : Type 0} (row : ℕ → E) (n : ℕ) (entries : List E) (is : entries ≡ table row n) where
  -- there are so many
  pub row_count : length entries ≡ n
  row_count = ap length is ∙ length_table row n

  -- each follows those before it
  pub follows : (i : ℕ) (entry : E) → n ≤ 1024 → i < n → entry ≡ get_or entries i entry → Follows row n i (take i entries) entry
  follows i entry few inside here = record {
    few = few;
    inside = inside;
    firsts = ap (take i) is ∙ take_table row n i (omega arith);
    here = here ∙ ap (λ xs. get_or xs i entry) is ∙ get_or_table row n i entry inside;
  }
