-- What a change says of an effect.
use Rattle.std.specs.Prelude.{ℕ}
use Rattle.logic.specs.declared.truth.Truth.{Truth}
use Rattle.logic.specs.declared.change.Change.{Change}
use Rattle.logic.specs.Masks.{Alters}
use Rattle.formulas.specs.Formula.{Effect, kleene, sets, clears}

-- the change has what e sets and clears where each variable has the truth that ρ says
abbrev pub Makes : (ℕ → Truth) → Effect → Change → Type 0
Makes ρ e c = Alters c (λ v. kleene ρ (sets v e)) (λ v. kleene ρ (clears v e))
