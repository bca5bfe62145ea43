-- Sequences of operators, where they lead, and which states are reachable.
use Rattle.std.specs.Prelude.{◌≡◌, ℕ, ◌^◌, ◌<◌, Bool, true, false, List, [], ◌∷◌, Some}
use Rattle.std.specs.List.{slice_get}
use Rattle.formulas.specs.Formula.{Effect, holds, sets, clears}
use Rattle.formulas.specs.Results.{state}
use Rattle.planning.specs.Model.{Action, Model}

-- an operator is applicable where its precondition holds
abbrev pub Applicable : Action → ℕ → Type 0
Applicable a s = holds (state s) a.precondition ≡ true

-- t is what the effect e makes of the state s of n variables: those that it sets are true, those that it clears and does not set are false, the others are as before
pub record Results (n : ℕ) (e : Effect) (s t : ℕ) : Type 0 where
  pub within : t < 2 ^ n
  pub set : (v : ℕ) → v < n → holds (state s) (sets v e) ≡ true → state t v ≡ true
  pub cleared : (v : ℕ) → v < n → holds (state s) (sets v e) ≡ false → holds (state s) (clears v e) ≡ true → state t v ≡ false
  pub kept : (v : ℕ) → v < n → holds (state s) (sets v e) ≡ false → holds (state s) (clears v e) ≡ false → state t v ≡ state s v

-- the operator of the number o leads from s to t
pub record Steps (m : Model) (s o t : ℕ) : Type 0 where
  pub operator : Action
  pub is : slice_get m.operators o ≡ Some operator
  pub applies : Applicable operator s
  pub gives : Results m.variables operator.effect s t

-- the operators, each applicable in its turn, lead from s to t
abbrev pub Leads : Model → ℕ → List ℕ → ℕ → Type 0
Leads m s [] t = s ≡ t
Leads m s (o ∷ os) t = (u : ℕ) × Steps m s o u × Leads m u os t

-- some sequence, of whatever length, leads from the start to s
abbrev pub Reachable : Model → ℕ → Type 0
Reachable m s = (os : List ℕ) × Leads m m.start os s

-- the goal holds in s
abbrev pub AtGoal : Model → ℕ → Type 0
AtGoal m s = holds (state s) m.goal ≡ true

-- no sequence of operators, of whatever length and cost, leads from the start to the goal
abbrev pub Unsolvable : Model → Type 0
Unsolvable m = (os : List ℕ) (t : ℕ) → Leads m m.start os t → AtGoal m t → ⊥

-- the reachable states hold the start and what is led to from them, and lie in every set that does
pub record Least (m : Model) : Type 0 where
  pub start : Reachable m m.start
  pub closed : (s o t : ℕ) → Reachable m s → Steps m s o t → Reachable m t
  pub least : (has : ℕ → Bool) → has m.start ≡ true → ((s o t : ℕ) → has s ≡ true → Steps m s o t → has t ≡ true) → (s : ℕ) → Reachable m s → has s ≡ true

abbrev pub ReachableLeast : Type 0
ReachableLeast = (m : Model) → Least m
