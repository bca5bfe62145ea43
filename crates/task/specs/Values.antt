-- What a task holds.
use Rattle.std.specs.Prelude.{ℕ, List, [], ◌∷◌, ◌++◌, Some, None, Option}
use Rattle.formulas.specs.declared.node.Node.{Node}
use Rattle.formulas.specs.Names.{node_names}
use Rattle.task.specs.declared.entries.Operator.{Operator}

-- the number of variables, the state at the start, the nodes, the operators, and the goal's node if there is one
pub record Value : Type 0 where
  pub n : ℕ
  pub start : ℕ
  pub nodes : List Node
  pub operators : List Operator
  pub goal : Option ℕ

abbrev pub value : ℕ → ℕ → List Node → List Operator → Option ℕ → Value
value n s ns os g = record { n = n; start = s; nodes = ns; operators = os; goal = g }

-- the blank task: its goal is false
abbrev pub blank : Value
blank = value 0 0 [] [] None

abbrev pub with_node : Value → Node → Value
with_node v x = value v.n v.start (v.nodes ++ (x ∷ [])) v.operators v.goal

abbrev pub with_operator : Value → Operator → Value
with_operator v o = value v.n v.start v.nodes (v.operators ++ (o ∷ [])) v.goal

abbrev pub with_goal : Value → ℕ → Value
with_goal v g = value v.n v.start v.nodes v.operators (Some g)

-- the nodes that the operators name, and that the goal names
abbrev pub operator_names : List Operator → List ℕ
operator_names [] = []
operator_names (o ∷ os) = o.precondition ∷ o.effect ∷ operator_names os

abbrev pub goal_names : Option ℕ → List ℕ
goal_names None = []
goal_names (Some g) = g ∷ []

-- every name in the paper, by a node, an operator or the goal
abbrev pub names : Value → List ℕ
names v = node_names v.nodes ++ (operator_names v.operators ++ goal_names v.goal)
