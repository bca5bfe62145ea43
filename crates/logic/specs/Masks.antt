-- A pair of words as a three-valued set of variables.
use Rattle.std.specs.Prelude.{◌≡◌, ℕ, ◌<◌}
use Rattle.logic.specs.declared.truth.Truth.{Truth}
use Rattle.logic.specs.declared.change.Mask.{Mask}
use Rattle.logic.specs.declared.change.Change.{Change}
use Rattle.logic.specs.Bit.{bit}
use Rattle.logic.specs.Kleene.{sure, maybe}

-- of each variable that a word has a bit for, the mask has the truth that s says
pub record Stands (m : Mask) (s : ℕ → Truth) : Type 0 where
  pub must : (v : ℕ) → v < 64 → bit v m.must ≡ sure (s v)
  pub may : (v : ℕ) → v < 64 → bit v m.may ≡ maybe (s v)

-- of each variable the change has the truth of its being set that s says, and the truth of its being cleared that k says
pub record Alters (c : Change) (s k : ℕ → Truth) : Type 0 where
  pub set : Stands c.set s
  pub clear : Stands c.clear k
