-- The rules that each node of a paper keeps: variables, lower nodes, and sorts.
use Rattle.std.specs.Prelude.{◌≡◌, ℕ, ◌<◌, Bool, true, not, ◌&&◌, List, length, take, nat_lt, slice_index_or}
use Rattle.formulas.specs.declared.node.Node.{Node}
use Rattle.formulas.specs.Sorts.{formula_node}
use Rattle.formulas.specs.declared.node.Node.TheVariants.{False, True, Variable, Not, And, Or, Empty, Set, Clear, Both, When}

-- the node i is there, and is a formula
abbrev pub is_formula : List Node → ℕ → Bool
is_formula nodes i = nat_lt i (length nodes) && formula_node (slice_index_or nodes i False)

-- the node i is there, and is an effect
abbrev pub is_effect : List Node → ℕ → Bool
is_effect nodes i = nat_lt i (length nodes) && not (formula_node (slice_index_or nodes i False))

-- a node that may follow these nodes, over variables below n
abbrev pub lawful : ℕ → List Node → Node → Bool
lawful n nodes False = true
lawful n nodes True = true
lawful n nodes (Variable v) = nat_lt v n
lawful n nodes (Not a) = is_formula nodes a
lawful n nodes (And a b) = is_formula nodes a && is_formula nodes b
lawful n nodes (Or a b) = is_formula nodes a && is_formula nodes b
lawful n nodes Empty = true
lawful n nodes (Set v) = nat_lt v n
lawful n nodes (Clear v) = nat_lt v n
lawful n nodes (Both a b) = is_effect nodes a && is_effect nodes b
lawful n nodes (When a b) = is_formula nodes a && is_effect nodes b

-- each node may follow those before it
abbrev pub Lawful : ℕ → List Node → Type 0
Lawful n nodes = (i : ℕ) → i < length nodes → lawful n (take i nodes) (slice_index_or nodes i False) ≡ true
