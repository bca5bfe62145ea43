-- The state after an effect, and the cube after one.
use Rattle.std.specs.Prelude.{ℕ, Bool}
use Rattle.logic.specs.Bit.{bit}
use Rattle.logic.specs.Partial.{PartialState, cube_from, truth}
use Rattle.logic.specs.Words.{word}
use Rattle.formulas.specs.Formula.{Effect, holds, kleene, after}

-- the value of variable v in a state
abbrev pub state : ℕ → ℕ → Bool
state s v = bit v s

-- the state of n variables after the effect e: each is true that is set, or was true and is not cleared
abbrev pub result : ℕ → Effect → ℕ → ℕ
result n e s = word n (λ v. holds (state s) (after v e))

-- the cube after the effect e: the same in three-valued logic
abbrev pub successor : Effect → PartialState → PartialState
successor e c = cube_from c.width (λ v. kleene (truth c) (after v e))
