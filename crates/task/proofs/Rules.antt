-- Every task keeps the rules, and means a planning task that is well formed.
use Rattle.std.proofs.Common.{ℕ, ◌≤◌, List, [], ◌∷◌, map, Some, None, vec_items, Option, subst}
use Rattle.std.specs.List.{AllByRecursion}
use Rattle.formulas.specs.declared.node.Node.{Node}
use Rattle.formulas.specs.Decode.{Ordered}
use Rattle.formulas.specs.Within.{Within, formula_within, effect_within}
use Rattle.planning.specs.Model.{ActionWithin, WellFormed}
use Rattle.task.specs.declared.entries.Operator.{Operator}
use Rattle.task.specs.declared.place.Task.{Task}
use Rattle.task.specs.Sound.{Sound}
use Rattle.task.specs.Meaning.{action, goal_at}
use Rattle.task.specs.Held.{value_of, model, ordered_of}

pub sound : (t : Task) → Sound (value_of t)
sound t = record {
  width = t.width;
  begins = t.begins;
  few_nodes = subst (λ (q : ℕ). q ≤ 1024) t.nodes.ok.0 t.few_nodes;
  few_operators = subst (λ (q : ℕ). q ≤ 128) t.operators.ok.0 t.few_operators;
  ruled = t.ruled;
  rooted = t.rooted;
  aimed = t.aimed;
  once = t.once;
}

module _ (n : ℕ) (nodes : List Node) (ord : Ordered n nodes) where
  actions_within : (os : List Operator) → AllByRecursion (ActionWithin n) (map (action nodes) os)
  actions_within [] = tt
  actions_within (o ∷ os) = (record { precondition = formula_within n nodes ord o.precondition; effect = effect_within n nodes ord o.effect }, actions_within os)

  goal_within : (g : Option ℕ) → Within n (goal_at nodes g)
  goal_within None = tt
  goal_within (Some g) = formula_within n nodes ord g

pub well_formed : (t : Task) → WellFormed (model t)
well_formed t = record {
  start = t.begins;
  operators = actions_within t.n (vec_items t.nodes) (ordered_of t) (vec_items t.operators);
  goal = goal_within t.n (vec_items t.nodes) (ordered_of t) t.goal;
}
