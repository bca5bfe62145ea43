-- The planning task that a paper's nodes, operators and goal stand for, and what its operators do.
use Rattle.std.specs.Prelude.{ℕ, Bool, cond, List, map, Some, None, Option, Ok, Err, Result}
use Rattle.std.specs.List.{slice_get}
use Rattle.formulas.specs.declared.node.Node.{Node}
use Rattle.formulas.specs.Formula.{Formula, ff, holds}
use Rattle.formulas.specs.Decode.{formula_at, effect_at}
use Rattle.formulas.specs.Results.{state, result}
use Rattle.planning.specs.Model.{Action, Model}
use Rattle.task.specs.declared.entries.Operator.{Operator}
use Rattle.task.specs.declared.stepping.Arrival.{Arrival}
use Rattle.task.specs.declared.stepping.StepFault.{StepFault}
use Rattle.task.specs.declared.stepping.StepFault.TheVariants.{Missing, Inapplicable}
use Rattle.task.specs.Values.{Value}

-- an operator whose roots stand in a table of nodes
abbrev pub action : List Node → Operator → Action
action nodes o = record { precondition = formula_at nodes o.precondition; effect = effect_at nodes o.effect; minutes = o.minutes; crew = o.crew }

-- no goal is one that never holds
abbrev pub goal_at : List Node → Option ℕ → Formula
goal_at nodes None = ff
goal_at nodes (Some g) = formula_at nodes g

abbrev pub model_of : Value → Model
model_of v = record { variables = v.n; start = v.start; operators = map (action v.nodes) v.operators; goal = goal_at v.nodes v.goal }

-- a state, and the minutes and the crew that it cost to get there
abbrev pub arrival : ℕ → ℕ → ℕ → Arrival
arrival s m c = record { state = s; minutes = m; crew = c }

-- what an operator does in a state
abbrev pub tried : ℕ → ℕ → Option Action → Result Arrival StepFault
tried n s None = Err Missing
tried n s (Some a) = cond (holds (state s) a.precondition) (Ok (arrival (result n a.effect s) a.minutes a.crew)) (Err Inapplicable)

-- what the operator of a number does in a state
abbrev pub stepped : Model → ℕ → ℕ → Result Arrival StepFault
stepped m s o = tried m.variables s (slice_get m.operators o)

-- whether the goal holds
abbrev pub arrived : Model → ℕ → Bool
arrived m s = holds (state s) m.goal
