-- Formulas and effects in the cube of one state.
use Rattle.std.proofs.Common.{◌≡◌, ℕ, ◌%◌, ◌^◌, ◌<◌, Bool, true, false, List, sym, refl, ap, ◌∙◌, subst}
use Rattle.logic.specs.declared.cube.Cube.{Cube}
use Rattle.logic.specs.Contained.{truth_lowest}
use Rattle.logic.specs.Kleene.{given, sure}
use Rattle.logic.specs.Partial.{PartialState, whole, single, truth}
use Rattle.logic.specs.Views.{partial}
use Rattle.formulas.specs.declared.node.Node.{Node}
use Rattle.formulas.specs.Decode.{Ordered, formula_at, effect_at}
use Rattle.formulas.specs.Formula.{kleene, holds}
use Rattle.formulas.specs.Results.{state, result, successor}
use Rattle.formulas.specs.Within.{EffectWithin, kleene_total, formula_within, effect_within}
use Rattle.formulas.proofs.After.{successor_value}

sure_given : (b : Bool) → sure (given b) ≡ b
sure_given true = refl
sure_given false = refl

-- the cube of one state, taken out of that of all states
pub one_state : (n s : ℕ) (q r : Cube) → partial q ≡ whole n → partial r ≡ single q.width (s % 2 ^ q.width) → partial r ≡ single n (s % 2 ^ n)
one_state n s q r all one = one ∙ ap (λ w. single w (s % 2 ^ w)) (ap (λ (c : PartialState). c.width) all)

module _ (n s : ℕ) (nodes : List Node) (ord : Ordered n nodes) (c : PartialState) (is : c ≡ single n (s % 2 ^ n)) where
  told : (v : ℕ) → v < n → truth c v ≡ given (state s v)
  told v h = ap (λ q. truth q v) is ∙ truth_lowest n s v h

  pub sure_in : (i : ℕ) → sure (kleene (truth c) (formula_at nodes i)) ≡ holds (state s) (formula_at nodes i)
  sure_in i = ap sure (kleene_total n (truth c) (state s) told (formula_at nodes i) (formula_within n nodes ord i)) ∙ sure_given _

  pub result_in : (i : ℕ) (r : PartialState) → r ≡ successor (effect_at nodes i) c → r.value ≡ result n (effect_at nodes i) s
  result_in i r e =
      let wide : c.width ≡ n = ap (λ q. q.width) is in
      ap (λ q. q.value) e
      ∙ successor_value (effect_at nodes i) c s (λ v h. told v (subst (λ w. v < w) wide h)) (subst (λ w. EffectWithin w (effect_at nodes i)) (sym wide) (effect_within n nodes ord i))
      ∙ ap (λ w. result w (effect_at nodes i) s) wide
