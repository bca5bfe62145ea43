-- The states of a cube, by the truths of its variables.
use Rattle.std.specs.Prelude.{◌≡◌, ℕ, ◌<◌, Bool, true, false, ◌≢◌}
use Rattle.logic.specs.declared.truth.Truth.{Truth}
use Rattle.logic.specs.declared.truth.Truth.TheVariants.{True, False, Open}

-- a value that a truth allows
abbrev pub Allows : Truth → Bool → Type 0
Allows True b = b ≡ true
Allows False b = b ≡ false
Allows Open b = Unit {0}

-- a state whose variables have the values s is in the cube whose variables have the truths ρ
abbrev pub Has : (ℕ → Truth) → (ℕ → Bool) → Type 0
Has ρ s = (v : ℕ) → Allows (ρ v) (s v)

-- no variable below w is open
abbrev pub Settled : ℕ → (ℕ → Truth) → Type 0
Settled w ρ = (v : ℕ) → v < w → ρ v ≢ Open
