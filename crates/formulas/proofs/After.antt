-- The cube after an effect, and the states after it.
use Rattle.std.proofs.Common.{◌≡◌, ℕ, ◌-◌, ◌^◌, ◌<◌, ◌≤◌, Bool, true, false, ◌⊎◌, sym, refl, ap, ◌∙◌, subst, inl, inr, arith, pow_pos}
use Rattle.std.proofs.lemmas.Bool.{cases_lt}
use Rattle.logic.specs.Bit.{bit}
use Rattle.logic.specs.BitLaws.{bit_ones}
use Rattle.logic.specs.Contained.{has_from, has_to, truth_high, truth_single, from_fine, from_truth}
use Rattle.logic.specs.Kleene.{given, sure, settled}
use Rattle.logic.specs.Partial.{PartialState, Fine, In, truth, single, cube_of}
use Rattle.logic.specs.States.{Allows}
use Rattle.logic.specs.Words.{word, word_below, word_is, bit_word}
use Rattle.formulas.specs.Formula.{Effect, kleene, holds, after}
use Rattle.formulas.specs.Results.{state, result, successor}
use Rattle.formulas.specs.Sound.{kleene_sound}
use Rattle.formulas.specs.Within.{EffectWithin, kleene_total, after_within}

settled_given : (b : Bool) → settled (given b) ≡ true
settled_given true = refl
settled_given false = refl

sure_given : (b : Bool) → sure (given b) ≡ b
sure_given true = refl
sure_given false = refl

-- the cube after the effect has the state after each state
pub successor_has : (e : Effect) (c : PartialState) (s : ℕ) → In c s → In (successor e c) (result c.width e s)
successor_has e c s i = record {
  below = word_below c.width (λ v. holds (state s) (after v e));
  agrees = has_to (successor e c) fine (result c.width e s) (λ v. go v (cases_lt v c.width));
}
  where
    fine : Fine (successor e c)
    fine = from_fine c.width (λ v. kleene (truth c) (after v e))

    go : (v : ℕ) → (v < c.width) ⊎ (c.width ≤ v) → Allows (truth (successor e c) v) (bit v (result c.width e s))
    go v (inl l) =
        subst (λ t. Allows t (bit v (result c.width e s))) (sym (from_truth c.width (λ u. kleene (truth c) (after u e)) v l))
        (subst (λ b. Allows (kleene (truth c) (after v e)) b) (sym (bit_word c.width (λ u. holds (state s) (after u e)) v l))
        (kleene_sound (truth c) (state s) (has_from c s i.agrees) (after v e)))
    go v (inr l) = subst (λ t. Allows t (bit v (result c.width e s))) (sym (truth_high (successor e c) fine v l)) tt

-- the values after an effect, where each variable has its value in s
pub successor_value : (e : Effect) (c : PartialState) (s : ℕ) → ((v : ℕ) → v < c.width → truth c v ≡ given (state s v)) → EffectWithin c.width e → (successor e c).value ≡ result c.width e s
successor_value e c s total h =
    sym (word_is c.width _ (result c.width e s) (word_below c.width _)
    (λ v k. bit_word c.width _ v k ∙ sym (ap sure (kleene_total c.width (truth c) (state s) total (after v e) (after_within c.width v e h k)) ∙ sure_given _)))

-- the cube after the effect of a single state is the state after that
pub successor_single : (e : Effect) (w s : ℕ) → EffectWithin w e → successor e (single w s) ≡ single w (result w e s)
successor_single e w s h = λ i. cube_of w (known i) (value i)
  where
    told : (v : ℕ) → v < w → kleene (truth (single w s)) (after v e) ≡ given (holds (state s) (after v e))
    told v k = kleene_total w (truth (single w s)) (state s) (truth_single w s) (after v e) (after_within w v e h k)

    known : word w (λ v. settled (kleene (truth (single w s)) (after v e))) ≡ 2 ^ w - 1
    known =
        sym (word_is w _ (2 ^ w - 1) (omega (arith, pow_pos w))
        (λ v k. bit_ones w v k ∙ sym (ap settled (told v k) ∙ settled_given _)))

    value : word w (λ v. sure (kleene (truth (single w s)) (after v e))) ≡ result w e s
    value =
        sym (word_is w _ (result w e s) (word_below w _)
        (λ v k. bit_word w _ v k ∙ sym (ap sure (told v k) ∙ sure_given _)))
