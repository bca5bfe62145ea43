-- The two sorts of nodes.
use Rattle.std.specs.Prelude.{Bool, true, false}
use Rattle.formulas.specs.declared.node.Node.{Node}
use Rattle.formulas.specs.declared.node.Node.TheVariants.{False, True, Variable, Not, And, Or, Empty, Set, Clear, Both, When}

-- a node is a formula or an effect
abbrev pub formula_node : Node → Bool
formula_node False = true
formula_node True = true
formula_node (Variable v) = true
formula_node (Not a) = true
formula_node (And a b) = true
formula_node (Or a b) = true
formula_node Empty = false
formula_node (Set v) = false
formula_node (Clear v) = false
formula_node (Both a b) = false
formula_node (When a b) = false
