-- Which nodes are named, and how often.
use Rattle.std.specs.Prelude.{ℕ, ◌+◌, ◌≤◌, Bool, false, cond, ◌||◌, List, [], ◌∷◌, ◌++◌, ◌==◌}
use Rattle.formulas.specs.declared.node.Node.{Node}
use Rattle.formulas.specs.declared.node.Node.TheVariants.{False, True, Variable, Not, And, Or, Empty, Set, Clear, Both, When}

-- the nodes that a node names
abbrev pub children : Node → List ℕ
children False = []
children True = []
children (Variable v) = []
children (Not a) = a ∷ []
children (And a b) = a ∷ b ∷ []
children (Or a b) = a ∷ b ∷ []
children Empty = []
children (Set v) = []
children (Clear v) = []
children (Both a b) = a ∷ b ∷ []
children (When a b) = a ∷ b ∷ []

abbrev pub node_names : List Node → List ℕ
node_names [] = []
node_names (x ∷ xs) = children x ++ node_names xs

abbrev pub among : ℕ → List ℕ → Bool
among j [] = false
among j (c ∷ cs) = j == c || among j cs

-- one of cs is named before, in ns or earlier in cs
abbrev pub clash : List ℕ → List ℕ → Bool
clash ns [] = false
clash ns (c ∷ cs) = among c ns || clash (c ∷ ns) cs

-- the names once those of cs are added
abbrev pub claimed : List ℕ → List ℕ → List ℕ
claimed ns [] = ns
claimed ns (c ∷ cs) = claimed (c ∷ ns) cs

abbrev pub Each : (ℕ → Type 0) → List ℕ → Type 0
Each P [] = Unit {0}
Each P (c ∷ cs) = P c × Each P cs

-- how often j is named
abbrev pub times : ℕ → List ℕ → ℕ
times j [] = 0
times j (c ∷ cs) = cond (j == c) 1 0 + times j cs

-- each node is named at most once
abbrev pub Once : List ℕ → Type 0
Once ns = (j : ℕ) → times j ns ≤ 1
