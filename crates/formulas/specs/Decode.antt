-- What a table of nodes stands for.
use Rattle.std.specs.Prelude.{◌≡◌, ℕ, zero, suc, Bool, true, false, ◌&&◌, List, nat_lt, slice_index_or}
use Rattle.formulas.specs.declared.node.Node.{Node}
use Rattle.formulas.specs.declared.node.Node.TheVariants.{False, True, Variable, Not, And, Or, Empty, Set, Clear, Both, When}
use Rattle.formulas.specs.Formula.{Formula, ff, tr, var, neg, conj, disj, Effect, skip, put, both, when}

-- a node at the place i names only nodes below i, and variables below n
abbrev pub ordered : ℕ → ℕ → Node → Bool
ordered n i False = true
ordered n i True = true
ordered n i (Variable v) = nat_lt v n
ordered n i (Not a) = nat_lt a i
ordered n i (And a b) = nat_lt a i && nat_lt b i
ordered n i (Or a b) = nat_lt a i && nat_lt b i
ordered n i Empty = true
ordered n i (Set v) = nat_lt v n
ordered n i (Clear v) = nat_lt v n
ordered n i (Both a b) = nat_lt a i && nat_lt b i
ordered n i (When a b) = nat_lt a i && nat_lt b i

-- each node of the table does; beyond its end stands, as it were, a node that names nothing
abbrev pub Ordered : ℕ → List Node → Type 0
Ordered n nodes = (i : ℕ) → ordered n i (slice_index_or nodes i False) ≡ true

-- one node as a formula, where f says what the nodes that it names stand for; an effect is no formula, and stands for ff
abbrev pub formula : (ℕ → Formula) → Node → Formula
formula f False = ff
formula f True = tr
formula f (Variable v) = var v
formula f (Not a) = neg (f a)
formula f (And a b) = conj (f a) (f b)
formula f (Or a b) = disj (f a) (f b)
formula f Empty = ff
formula f (Set v) = ff
formula f (Clear v) = ff
formula f (Both a b) = ff
formula f (When a b) = ff

-- the formula at the node i, read k nodes deep
abbrev pub formula_to : ℕ → List Node → ℕ → Formula
formula_to zero nodes i = ff
formula_to (suc k) nodes i = formula (formula_to k nodes) (slice_index_or nodes i False)

abbrev pub formula_at : List Node → ℕ → Formula
formula_at nodes i = formula_to (suc i) nodes i

-- one node as an effect, where f and g say what the nodes that it names stand for; a formula is no effect, and stands for skip
abbrev pub effect : (ℕ → Formula) → (ℕ → Effect) → Node → Effect
effect f g False = skip
effect f g True = skip
effect f g (Variable v) = skip
effect f g (Not a) = skip
effect f g (And a b) = skip
effect f g (Or a b) = skip
effect f g Empty = skip
effect f g (Set v) = put v true
effect f g (Clear v) = put v false
effect f g (Both a b) = both (g a) (g b)
effect f g (When a b) = when (f a) (g b)

abbrev pub effect_to : ℕ → List Node → ℕ → Effect
effect_to zero nodes i = skip
effect_to (suc k) nodes i = effect (formula_at nodes) (effect_to k nodes) (slice_index_or nodes i False)

abbrev pub effect_at : List Node → ℕ → Effect
effect_at nodes i = effect_to (suc i) nodes i
