-- What a judge of plans answers.
use Rattle.std.specs.Prelude.{ℕ, ◌+◌, cond, List, [], ◌∷◌, length, Some, None, Ok, Err, Option, Result, nat_lt}
use Rattle.records.specs.Cuts.{le2}
use Rattle.records.specs.declared.PaperKind.TheVariants.{Plan}
use Rattle.records.specs.Single.{and_then, single_in}
use Rattle.records.specs.Walks.{map_err}
use Rattle.costs.specs.Kind.{Kind}
use Rattle.task.specs.declared.stepping.Arrival.{Arrival}
use Rattle.task.specs.declared.stepping.StepFault.{StepFault}
use Rattle.task.specs.declared.stepping.StepFault.TheVariants.{Missing, Inapplicable}
use Rattle.task.specs.Meaning.{stepped, arrived}
use Rattle.planning.specs.Model.{Model}
use Rattle.plans.specs.declared.verdict.Reached.{Reached}
use Rattle.plans.specs.declared.verdict.PlanFault.{PlanFault}
use Rattle.plans.specs.declared.verdict.PlanFault.TheVariants.{Record, TooManySteps, NoOperator, Inapplicable as Unfit, CostRefused, GoalFalse}

-- what a judge of plans answers
abbrev pub Answer : Type 0 → Type 0
Answer C = Result (Reached C) PlanFault

-- the state s, after k steps, at the cost c
abbrev pub reached : {C : Type 0} → ℕ → ℕ → C → Reached C
reached s k c = record { state = s; steps = k; cost = c }

-- the operator numbers of a plan's body, two bytes each
abbrev pub steps_in : List ℕ → List ℕ
steps_in [] = []
steps_in (a ∷ []) = []
steps_in (a ∷ b ∷ bs) = le2 a b ∷ steps_in bs

-- the step k leads to s, if its cost can be joined
abbrev pub charged : {C : Type 0} → ℕ → ℕ → Option C → Answer C
charged s k None = Err (CostRefused k)
charged s k (Some c) = Ok (reached s (k + 1) c)

-- the step after r, as the task answers it
abbrev pub taken : {C : Type 0} → Kind C → Reached C → Result Arrival StepFault → Answer C
taken K r (Err Missing) = Err (NoOperator r.steps)
taken K r (Err Inapplicable) = Err (Unfit r.steps)
taken K r (Ok a) = charged a.state r.steps (K.join r.cost (K.one a.minutes a.crew))

-- one step more
abbrev pub next : {C : Type 0} → Kind C → Model → Reached C → ℕ → Answer C
next K m r o = cond (nat_lt r.steps 4096) (taken K r (stepped m r.state o)) (Err TooManySteps)

-- the steps of a plan, one after another
abbrev pub run : {C : Type 0} → Kind C → Model → Reached C → List ℕ → Answer C
run K m r [] = Ok r
run K m r (o ∷ os) = and_then (next K m r o) (λ q. run K m q os)

-- where a plan begins: the start, after no steps, at no cost
abbrev pub begin : {C : Type 0} → Kind C → Model → Reached C
begin K m = reached m.start 0 K.zero

-- where a plan ends, the goal holds
abbrev pub finished : {C : Type 0} → Model → Reached C → Answer C
finished m r = cond (arrived m r.state) (Ok r) (Err (GoalFalse r.steps))

-- a plan of at most 4,096 steps, taken one after another, that ends at the goal
abbrev pub judged : {C : Type 0} → Kind C → Model → List ℕ → Answer C
judged K m os = cond (nat_lt 4096 (length os)) (Err TooManySteps) (and_then (run K m (begin K m) os) (finished m))

-- a plan's paper: one record of kind 5
abbrev pub plan_verdict : {C : Type 0} → Kind C → Model → List ℕ → Answer C
plan_verdict K m paper = and_then (map_err Record (single_in Plan paper)) (λ body. judged K m (steps_in body))
