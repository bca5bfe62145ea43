-- The number, the layer and the place of each fault of a plan.
use Rattle.std.specs.Prelude.{ℕ}
use Rattle.records.specs.Faults as record_fault
use Rattle.records.specs.declared.Layer.{Layer}
use Rattle.records.specs.declared.Layer.TheVariants.{Plan as InPlan}
use Rattle.plans.specs.declared.verdict.PlanFault.{PlanFault}
use Rattle.plans.specs.declared.verdict.PlanFault.TheVariants.{Record, TooManySteps, NoOperator, Inapplicable, CostRefused, GoalFalse}

abbrev pub number_of : PlanFault → ℕ
number_of (Record f) = record_fault.number_of f
number_of TooManySteps = 9
number_of (NoOperator k) = 10
number_of (Inapplicable k) = 11
number_of (CostRefused k) = 12
number_of (GoalFalse k) = 13

abbrev pub layer_of : PlanFault → Layer
layer_of (Record f) = record_fault.layer_of f
layer_of TooManySteps = InPlan
layer_of (NoOperator k) = InPlan
layer_of (Inapplicable k) = InPlan
layer_of (CostRefused k) = InPlan
layer_of (GoalFalse k) = InPlan

-- the most steps, the step at fault, or how many steps there are
abbrev pub place_of : PlanFault → ℕ
place_of (Record f) = record_fault.place_of f
place_of TooManySteps = 4096
place_of (NoOperator k) = k
place_of (Inapplicable k) = k
place_of (CostRefused k) = k
place_of (GoalFalse k) = k
