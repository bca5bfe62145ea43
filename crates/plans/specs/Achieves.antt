-- Which plans are accepted, and with what.
use Rattle.std.specs.Prelude.{◌≡◌, ℕ, ◌≤◌, true, List, [], ◌∷◌, length, Some, Ok, Option, option_and_then}
use Rattle.std.specs.List.{slice_get}
use Rattle.records.specs.declared.PaperKind.TheVariants.{Plan}
use Rattle.records.specs.Papers.{Holds}
use Rattle.costs.specs.Kind.{Kind}
use Rattle.task.specs.Meaning.{arrived}
use Rattle.planning.specs.Model.{Model}
use Rattle.planning.specs.Leads.{Leads}
use Rattle.plans.specs.declared.verdict.Reached.{Reached}
use Rattle.plans.specs.Verdicts.{Answer, steps_in}

-- the costs of the operators, joined to c in turn; none where one is refused
abbrev pub cost_from : {C : Type 0} → Kind C → Model → C → List ℕ → Option C
cost_from K m c [] = Some c
cost_from K m c (o ∷ os) = option_and_then (λ a. option_and_then (λ d. cost_from K m d os) (K.join c (K.one a.minutes a.crew))) (slice_get m.operators o)

-- the operators lead from the start to a goal state, in so many steps and at that cost
pub record Achieves {C : Type 0} (K : Kind C) (m : Model) (os : List ℕ) (q : Reached C) : Type 0 where
  pub few : length os ≤ 4096
  pub leads : Leads m m.start os q.state
  pub goal : arrived m q.state ≡ true
  pub steps : q.steps ≡ length os
  pub cost : cost_from K m K.zero os ≡ Some q.cost

-- the paper is one record of a plan, and its operators are such
pub record Accepted {C : Type 0} (K : Kind C) (m : Model) (paper : List ℕ) (q : Reached C) : Type 0 where
  pub body : List ℕ
  pub written : Holds Plan body paper
  pub achieves : Achieves K m (steps_in body) q

-- the answer is Ok exactly where the plan is accepted, and with just that
abbrev pub Exact : {C : Type 0} → Kind C → Model → List ℕ → Answer C → Type 0
Exact {C} K m paper r = (q : Reached C) → (r ≡ Ok q → Accepted K m paper q) × (Accepted K m paper q → r ≡ Ok q)
