-- Formulas and effects over the variables below a width, and what a table has of them.
use Rattle.std.specs.Prelude.{◌≡◌, ℕ, zero, suc, ◌<◌, Bool, true, false, cond, not, ◌&&◌, ◌||◌, List, ◌==◌, slice_index_or, refl}
use Rattle.std.proofs.Common.{ap, ap₂, ◌∙◌}
use Rattle.std.proofs.lemmas.Bool.{ltb-true, and_parts}
use Rattle.logic.specs.declared.truth.Truth.{Truth}
use Rattle.logic.specs.Kleene.{not3, and3, or3, given}
use Rattle.formulas.specs.declared.node.Node.{Node}
use Rattle.formulas.specs.declared.node.Node.TheVariants.{False, True, Variable, Not, And, Or, Empty, Set, Clear, Both, When}
use Rattle.formulas.specs.Formula.{Formula, ff, tr, var, neg, conj, disj, kleene, holds, Effect, skip, put, both, when, sets, clears, after}
use Rattle.formulas.specs.Decode.{ordered, Ordered, formula, formula_to, formula_at, effect, effect_to, effect_at}

-- every variable of the formula, or of the effect, is below w
abbrev pub Within : ℕ → Formula → Type 0
Within w ff = Unit {0}
Within w tr = Unit {0}
Within w (var v) = v < w
Within w (neg φ) = Within w φ
Within w (conj φ ψ) = Within w φ × Within w ψ
Within w (disj φ ψ) = Within w φ × Within w ψ

abbrev pub EffectWithin : ℕ → Effect → Type 0
EffectWithin w skip = Unit {0}
EffectWithin w (put v b) = v < w
EffectWithin w (both e f) = EffectWithin w e × EffectWithin w f
EffectWithin w (when χ e) = Within w χ × EffectWithin w e

-- ---- where each variable has a value, three-valued logic is two-valued

given_not : (a : Bool) → not3 (given a) ≡ given (not a)
given_not true = refl
given_not false = refl

given_and : (a b : Bool) → and3 (given a) (given b) ≡ given (a && b)
given_and true b = refl
given_and false b = refl

given_or : (a b : Bool) → or3 (given a) (given b) ≡ given (a || b)
given_or true b = refl
given_or false b = refl

module _ (w : ℕ) (ρ : ℕ → Truth) (s : ℕ → Bool) (total : (v : ℕ) → v < w → ρ v ≡ given (s v)) where
  pub kleene_total : (φ : Formula) → Within w φ → kleene ρ φ ≡ given (holds s φ)
  kleene_total ff h = refl
  kleene_total tr h = refl
  kleene_total (var v) h = total v h
  kleene_total (neg φ) h = ap not3 (kleene_total φ h) ∙ given_not (holds s φ)
  kleene_total (conj φ ψ) h = ap₂ and3 (kleene_total φ h.0) (kleene_total ψ h.1) ∙ given_and (holds s φ) (holds s ψ)
  kleene_total (disj φ ψ) h = ap₂ or3 (kleene_total φ h.0) (kleene_total ψ h.1) ∙ given_or (holds s φ) (holds s ψ)

-- ---- the conditions of an effect

within_if : (w : ℕ) (b : Bool) → Within w (cond b tr ff)
within_if w true = tt
within_if w false = tt

module _ (w v : ℕ) where
  sets_within : (e : Effect) → EffectWithin w e → Within w (sets v e)
  sets_within skip h = tt
  sets_within (put u true) h = within_if w (v == u)
  sets_within (put u false) h = tt
  sets_within (both e f) h = (sets_within e h.0, sets_within f h.1)
  sets_within (when χ e) h = (h.0, sets_within e h.1)

  clears_within : (e : Effect) → EffectWithin w e → Within w (clears v e)
  clears_within skip h = tt
  clears_within (put u true) h = tt
  clears_within (put u false) h = within_if w (v == u)
  clears_within (both e f) h = (clears_within e h.0, clears_within f h.1)
  clears_within (when χ e) h = (h.0, clears_within e h.1)

  pub after_within : (e : Effect) → EffectWithin w e → v < w → Within w (after v e)
  after_within e h k = (sets_within e h, (k, clears_within e h))

-- ---- the formulas and effects of a table in order

module _ (w i : ℕ) (f : ℕ → Formula) (below : (j : ℕ) → j < i → Within w (f j)) where
  node_within : (N : Node) → ordered w i N ≡ true → Within w (formula f N)
  node_within False o = tt
  node_within True o = tt
  node_within (Variable v) o = ltb-true v w o
  node_within (Not a) o = below a (ltb-true a i o)
  node_within (And a b) o = let p = and_parts _ _ o in (below a (ltb-true a i p.0), below b (ltb-true b i p.1))
  node_within (Or a b) o = let p = and_parts _ _ o in (below a (ltb-true a i p.0), below b (ltb-true b i p.1))
  node_within Empty o = tt
  node_within (Set v) o = tt
  node_within (Clear v) o = tt
  node_within (Both a b) o = tt
  node_within (When a b) o = tt

  effect_node_within : (g : ℕ → Effect) → ((j : ℕ) → j < i → EffectWithin w (g j)) → (N : Node) → ordered w i N ≡ true → EffectWithin w (effect f g N)
  effect_node_within g lower False o = tt
  effect_node_within g lower True o = tt
  effect_node_within g lower (Variable v) o = tt
  effect_node_within g lower (Not a) o = tt
  effect_node_within g lower (And a b) o = tt
  effect_node_within g lower (Or a b) o = tt
  effect_node_within g lower Empty o = tt
  effect_node_within g lower (Set v) o = ltb-true v w o
  effect_node_within g lower (Clear v) o = ltb-true v w o
  effect_node_within g lower (Both a b) o = let p = and_parts _ _ o in (lower a (ltb-true a i p.0), lower b (ltb-true b i p.1))
  effect_node_within g lower (When a b) o = let p = and_parts _ _ o in (below a (ltb-true a i p.0), lower b (ltb-true b i p.1))

module _ (w : ℕ) (nodes : List Node) (ord : Ordered w nodes) where
  formula_to_within : (k i : ℕ) → Within w (formula_to k nodes i)
  formula_to_within zero i = tt
  formula_to_within (suc k) i = node_within w i (formula_to k nodes) (λ j hj. formula_to_within k j) (slice_index_or nodes i False) (ord i)

  pub formula_within : (i : ℕ) → Within w (formula_at nodes i)
  formula_within i = formula_to_within (suc i) i

  effect_to_within : (k i : ℕ) → EffectWithin w (effect_to k nodes i)
  effect_to_within zero i = tt
  effect_to_within (suc k) i =
      effect_node_within w i (formula_at nodes) (λ j hj. formula_within j) (effect_to k nodes) (λ j hj. effect_to_within k j) (slice_index_or nodes i False) (ord i)

  pub effect_within : (i : ℕ) → EffectWithin w (effect_at nodes i)
  effect_within i = effect_to_within (suc i) i
