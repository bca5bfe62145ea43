-- What a task in its place holds, and what it means.
use Rattle.std.specs.Prelude.{ℕ, List, vec_items}
use Rattle.formulas.specs.declared.node.Node.{Node}
use Rattle.formulas.specs.Decode.{Ordered}
use Rattle.formulas.specs.Orders.{lawful_ordered}
use Rattle.planning.specs.Model.{Model}
use Rattle.task.specs.declared.place.Task.{Task}
use Rattle.task.specs.Values.{Value, value}
use Rattle.task.specs.Meaning.{model_of}

abbrev pub value_of : Task → Value
value_of t = value t.n t.start (vec_items t.nodes) (vec_items t.operators) t.goal

abbrev pub model : Task → Model
model t = model_of (value_of t)

-- the task as a table of nodes
abbrev pub wide_of : Task → ℕ
wide_of t = t.n

abbrev pub nodes_of : Task → List Node
nodes_of t = vec_items t.nodes

pub ordered_of : (t : Task) → Ordered (wide_of t) (nodes_of t)
ordered_of t = lawful_ordered t.n (vec_items t.nodes) t.ruled
