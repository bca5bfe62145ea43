-- A node of a table in order stands for what the nodes that it names stand for, joined.
use Rattle.std.proofs.Common.{◌≡◌, ℕ, zero, suc, ◌<◌, true, List, get_or, refl, ap, ◌∙◌, ap₂, arith}
use Rattle.std.proofs.lemmas.Bool.{ltb-true, and_parts}
use Rattle.formulas.specs.declared.node.Node.{Node}
use Rattle.formulas.specs.declared.node.Node.TheVariants.{False, True, Variable, Not, And, Or, Empty, Set, Clear, Both, When}
use Rattle.formulas.specs.Formula.{Formula, neg, conj, disj, kleene, Effect, both, when}
use Rattle.logic.specs.declared.truth.Truth.{Truth}
use Rattle.formulas.specs.Decode.{ordered, Ordered, formula, formula_to, formula_at, effect, effect_to, effect_at}

-- two numbers named below i
named : {A : Type 0} (n i : ℕ) (a b : ℕ) (f g : ℕ → A) (join : A → A → A) → ordered n i (And a b) ≡ true → ((j : ℕ) → j < i → f j ≡ g j) → join (f a) (f b) ≡ join (g a) (g b)
named n i a b f g join o h =
    let p = and_parts _ _ o in ap₂ join (h a (ltb-true a i p.0)) (h b (ltb-true b i p.1))

formula_same : (n i : ℕ) (N : Node) (f g : ℕ → Formula) → ordered n i N ≡ true → ((j : ℕ) → j < i → f j ≡ g j) → formula f N ≡ formula g N
formula_same n i False f g o h = refl
formula_same n i True f g o h = refl
formula_same n i (Variable v) f g o h = refl
formula_same n i (Not a) f g o h = ap neg (h a (ltb-true a i o))
formula_same n i (And a b) f g o h = named n i a b f g conj o h
formula_same n i (Or a b) f g o h = named n i a b f g disj o h
formula_same n i Empty f g o h = refl
formula_same n i (Set v) f g o h = refl
formula_same n i (Clear v) f g o h = refl
formula_same n i (Both a b) f g o h = refl
formula_same n i (When a b) f g o h = refl

effect_same : (n i : ℕ) (N : Node) (f : ℕ → Formula) (g h : ℕ → Effect) → ordered n i N ≡ true → ((j : ℕ) → j < i → g j ≡ h j) → effect f g N ≡ effect f h N
effect_same n i False f g h o e = refl
effect_same n i True f g h o e = refl
effect_same n i (Variable v) f g h o e = refl
effect_same n i (Not a) f g h o e = refl
effect_same n i (And a b) f g h o e = refl
effect_same n i (Or a b) f g h o e = refl
effect_same n i Empty f g h o e = refl
effect_same n i (Set v) f g h o e = refl
effect_same n i (Clear v) f g h o e = refl
effect_same n i (Both a b) f g h o e = named n i a b g h both o e
effect_same n i (When a b) f g h o e = ap (when (f a)) (e b (ltb-true b i (and_parts _ _ o).1))

module _ (n : ℕ) (nodes : List Node) (ord : Ordered n nodes) where
  -- to read deeper than the node's number changes nothing
  formula_deep : (k l i : ℕ) → i < k → i < l → formula_to k nodes i ≡ formula_to l nodes i
  formula_deep zero l i hk hl = absurd (omega arith)
  formula_deep (suc k) zero i hk hl = absurd (omega arith)
  formula_deep (suc k) (suc l) i hk hl =
      formula_same n i (get_or nodes i False) (formula_to k nodes) (formula_to l nodes) (ord i)
      (λ j hj. formula_deep k l j (omega arith) (omega arith))

  pub formula_node_kept : (i : ℕ) → formula_at nodes i ≡ formula (formula_at nodes) (get_or nodes i False)
  formula_node_kept i =
      formula_same n i (get_or nodes i False) (formula_to i nodes) (formula_at nodes) (ord i)
      (λ j hj. formula_deep i (suc j) j hj (omega arith))

  -- at a node that is known
  pub formula_is : (i : ℕ) (N : Node) → get_or nodes i False ≡ N → formula_at nodes i ≡ formula (formula_at nodes) N
  formula_is i N e = formula_node_kept i ∙ ap (formula (formula_at nodes)) e

  pub kleene_is : (ρ : ℕ → Truth) (i : ℕ) (N : Node) → get_or nodes i False ≡ N → kleene ρ (formula_at nodes i) ≡ kleene ρ (formula (formula_at nodes) N)
  kleene_is ρ i N e = ap (kleene ρ) (formula_is i N e)

  effect_deep : (k l i : ℕ) → i < k → i < l → effect_to k nodes i ≡ effect_to l nodes i
  effect_deep zero l i hk hl = absurd (omega arith)
  effect_deep (suc k) zero i hk hl = absurd (omega arith)
  effect_deep (suc k) (suc l) i hk hl =
      effect_same n i (get_or nodes i False) (formula_at nodes) (effect_to k nodes) (effect_to l nodes) (ord i)
      (λ j hj. effect_deep k l j (omega arith) (omega arith))

  pub effect_is : (i : ℕ) (N : Node) → get_or nodes i False ≡ N → effect_at nodes i ≡ effect (formula_at nodes) (effect_at nodes) N
  effect_is i N e =
      effect_same n i (get_or nodes i False) (formula_at nodes) (effect_to i nodes) (effect_at nodes) (ord i)
      (λ j hj. effect_deep i (suc j) j hj (omega arith))
      ∙ ap (effect (formula_at nodes) (effect_at nodes)) e
