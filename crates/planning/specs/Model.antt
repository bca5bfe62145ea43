-- The planning task: variables, a start, operators with costs, and a goal.
use Rattle.std.specs.Prelude.{ℕ, ◌^◌, ◌<◌, List}
use Rattle.std.specs.List.{AllByRecursion}
use Rattle.formulas.specs.Formula.{Formula, Effect}
use Rattle.formulas.specs.Within.{Within, EffectWithin}

-- an operator: when it applies, what it changes, and what it costs
pub record Action : Type 0 where
  pub precondition : Formula
  pub effect : Effect
  pub minutes : ℕ
  pub crew : ℕ

-- a state is a number below 2 ^ variables
pub record Model : Type 0 where
  pub variables : ℕ
  pub start : ℕ
  pub operators : List Action
  pub goal : Formula

-- the operator has only variables of the task
pub record ActionWithin (n : ℕ) (a : Action) : Type 0 where
  pub precondition : Within n a.precondition
  pub effect : EffectWithin n a.effect

-- the start is a state, and every formula and effect has only variables of the task
pub record WellFormed (m : Model) : Type 0 where
  pub start : m.start < 2 ^ m.variables
  pub operators : AllByRecursion (ActionWithin m.variables) m.operators
  pub goal : Within m.variables m.goal
