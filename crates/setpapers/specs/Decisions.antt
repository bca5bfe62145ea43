-- Decisions on variables, and what they answer.
use Rattle.std.specs.Prelude.{ℕ, ◌<◌, Bool, true, false, cond}
use Rattle.logic.specs.declared.truth.Truth.{Truth}
use Rattle.logic.specs.declared.truth.Truth.TheVariants.{True, False, Open as Unknown}
use Rattle.logic.specs.declared.truth.Truth.TheVariants.{True as Inside, False as Outside, Open}

-- a test of a variable has a decision for where it is false and one for where it is true
pub data Decision : Type 0 where
  out : Decision
  inn : Decision
  test : ℕ → Decision → Decision → Decision

-- whether a state is in
abbrev pub picks : (ℕ → Bool) → Decision → Bool
picks s out = false
picks s inn = true
picks s (test v low high) = cond (s v) (picks s high) (picks s low)

-- the answer of two, if they agree
abbrev pub agree : Truth → Truth → Truth
agree Inside Inside = Inside
agree Inside Outside = Open
agree Inside Open = Open
agree Outside Inside = Open
agree Outside Outside = Outside
agree Outside Open = Open
agree Open b = Open

-- a known variable picks, a free one asks both
abbrev pub pick : Truth → Truth → Truth → Truth
pick True low high = high
pick False low high = low
pick Unknown low high = agree low high

-- the answer where each variable has a truth
abbrev pub answers : (ℕ → Truth) → Decision → Truth
answers ρ out = Outside
answers ρ inn = Inside
answers ρ (test v low high) = pick (ρ v) (answers ρ low) (answers ρ high)

-- only variables below w are tested
abbrev pub Below : ℕ → Decision → Type 0
Below w out = Unit {0}
Below w inn = Unit {0}
Below w (test v low high) = (v < w) × Below w low × Below w high
