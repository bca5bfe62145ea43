-- A formula as a paper of nodes: what its bytes hold, which formula it stands for, and its rules.
use Rattle.std.specs.Prelude.{◌≡◌, ℕ, zero, suc, ◌+◌, ◌*◌, Bool, true, false, not, ◌&&◌, List, [], Some, None, Option, Result, slice_index, unwrap_or}
use Rattle.records.specs.declared.PaperKind.TheVariants.{Formula as FormulaPaper}
use Rattle.logic.specs.declared.truth.Truth.{Truth}
use Rattle.logic.specs.Partial.{PartialState}
use Rattle.formulas.specs.declared.node.Node.{Node}
use Rattle.formulas.specs.declared.node.Node.TheVariants.{False as no_node}
use Rattle.formulas.specs.Decode.{ordered, formula_at}
use Rattle.formulas.specs.Formula.{Formula, ff, kleene, holds}
use Rattle.formulas.specs.Names.{children, clash, claimed, Once}
use Rattle.formulas.specs.Sorts.{formula_node}
use Rattle.formulas.specs.Written.{decoded}
use Rattle.sets.specs.Told.{states_where, told}
use Rattle.setpapers.specs.declared.fault.SetFault.{SetFault}
use Rattle.setpapers.specs.Rows.{verdict}
use Rattle.setpapers.specs.Papers.{body_in}
use Rattle.setpapers.specs.Diagrams.{entries}
use Rattle.setpapers.specs.Tabled.{table}

-- what the bytes have at the entry i: a node, unless its tag or an operand is wrong
unfoldable pub decoded_at : List ℕ → ℕ → Option Node
decoded_at bs i = decoded (slice_index bs (i * 5)) (slice_index bs (i * 5 + 1) + slice_index bs (i * 5 + 2) * 256) (slice_index bs (i * 5 + 3) + slice_index bs (i * 5 + 4) * 256)

-- the node, or the formula that is false
abbrev pub node_or : Option Node → Node
node_or o = unwrap_or o no_node

-- the node i of the bytes
abbrev pub node_at : List ℕ → ℕ → Node
node_at bs i = node_or (decoded_at bs i)

-- all the nodes of the bytes
abbrev pub nodes_in : List ℕ → List Node
nodes_in bs = table (node_at bs) (entries bs)

-- the last of n nodes is the root; with none, nothing is in
abbrev pub root_to : List Node → ℕ → Formula
root_to nodes zero = ff
root_to nodes (suc n) = formula_at nodes n

-- the formula that the bytes stand for
abbrev pub formula_of : List ℕ → Formula
formula_of bs = root_to (nodes_in bs) (entries bs)

-- the states of width w in which the formula holds
abbrev pub formula_has : ℕ → List ℕ → ℕ → Bool
formula_has w bs = states_where w (λ s. holds s (formula_of bs))

-- the answer to any cube
abbrev pub formula_answer : ℕ → List ℕ → PartialState → Truth
formula_answer w bs = told w (λ ρ. kleene ρ (formula_of bs))

-- what the first i nodes name
unfoldable pub named_by : (ℕ → Node) → ℕ → List ℕ
named_by f zero = []
named_by f (suc i) = claimed (named_by f i) (children (f i))

-- a formula node, over w variables and the nodes before the place i
abbrev pub fits : ℕ → ℕ → Node → Bool
fits w i N = formula_node N && ordered w i N

-- there is such a node, and it names no node that ns has, nor one twice
abbrev pub lawful_node : ℕ → ℕ → List ℕ → Option Node → Bool
lawful_node w i ns (Some N) = fits w i N && not (clash ns (children N))
lawful_node w i ns None = false

-- the node i of the bytes is lawful after those before it
abbrev pub lawful_at : ℕ → List ℕ → ℕ → Bool
lawful_at w bs i = lawful_node w i (named_by (node_at bs) i) (decoded_at bs i)

-- whether the bytes are a formula over w variables, and if not why
abbrev pub formula_verdict : ℕ → List ℕ → Result (Unit {0}) SetFault
formula_verdict w bs = verdict 1 (lawful_at w bs) (entries bs)

-- the body of a formula paper over w variables, or its first fault
abbrev pub formula_in : ℕ → List ℕ → Result (List ℕ) SetFault
formula_in w = body_in FormulaPaper (formula_verdict w)

-- the rule of the node i, over w variables: it is a formula in order, and up to it each node is named at most once
pub record FormulaNode (w : ℕ) (bs : List ℕ) (i : ℕ) : Type 0 where
  pub node : Node
  pub written : decoded_at bs i ≡ Some node
  pub sort : formula_node node ≡ true
  pub order : ordered w i node ≡ true
  pub once : Once (named_by (node_at bs) (suc i))
