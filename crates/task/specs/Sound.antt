-- The rules that every task keeps.
use Rattle.std.specs.Prelude.{◌≡◌, ℕ, ◌^◌, ◌<◌, ◌≤◌, Bool, true, ◌&&◌, List, length, Some, None, Option, slice_index_or}
use Rattle.formulas.specs.declared.node.Node.{Node}
use Rattle.formulas.specs.Lawful.{is_formula, is_effect, Lawful}
use Rattle.task.specs.declared.entries.Operator.{Operator}
use Rattle.formulas.specs.Names.{Once}
use Rattle.task.specs.Values.{Value, names}

-- an operator's roots are a formula and an effect
abbrev pub rooted : List Node → Operator → Bool
rooted nodes o = is_formula nodes o.precondition && is_effect nodes o.effect

abbrev pub Rooted : List Node → List Operator → Type 0
Rooted nodes operators = (i : ℕ) (d : Operator) → i < length operators → rooted nodes (slice_index_or operators i d) ≡ true

-- the goal, where there is one, is a formula
abbrev pub aims : List Node → Option ℕ → Bool
aims nodes None = true
aims nodes (Some g) = is_formula nodes g

-- the rules together
pub record Sound (v : Value) : Type 0 where
  pub width : v.n ≤ 64
  pub begins : v.start < 2 ^ v.n
  pub few_nodes : length v.nodes ≤ 1024
  pub few_operators : length v.operators ≤ 128
  pub ruled : Lawful v.n v.nodes
  pub rooted : Rooted v.nodes v.operators
  pub aimed : aims v.nodes v.goal ≡ true
  pub once : Once (names v)
