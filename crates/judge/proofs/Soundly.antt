-- The set of an accepted proof holds each reachable state, and none of them is a goal state.
use Rattle.std.proofs.Common.{◌≡◌, ℕ, zero, suc, ◌^◌, ◌<◌, Bool, true, false, List, [], ◌∷◌, length, Some, sym, ap, ◌∙◌, subst, ⊎_elim, mod-eq_of_lt, arith, pow_pos}
use lib.Bits.{and_mask, and_zero_r}
use Rattle.std.specs.List.{slice_get}
use Rattle.std.proofs.lemmas.Bool.{both_ways, or_cases, cases_eq}
use Rattle.logic.specs.declared.truth.Truth.{Truth}
use Rattle.logic.specs.Allowed.{sure_is, refuted_is}
use Rattle.logic.specs.Contained.{has_from, from_fine}
use Rattle.logic.specs.Kleene.{refuted, sure}
use Rattle.logic.specs.Partial.{PartialState, Fine, In, truth, whole, single}
use Rattle.logic.specs.States.{Allows}
use Rattle.formulas.specs.Formula.{Formula, kleene, holds, after}
use Rattle.formulas.specs.Results.{state, result, successor}
use Rattle.formulas.specs.Sound.{kleene_sound}
use Rattle.formulas.proofs.After.{successor_has}
use Rattle.logic.specs.declared.truth.Truth.TheVariants.{True as Inside, False as Outside}
use Rattle.sets.specs.Sets.{Claims, Laws}
use Rattle.trees.specs.Covers.{EachCovers}
use Rattle.planning.specs.Model.{Model, WellFormed}
use Rattle.planning.specs.Leads.{Steps, Reachable}
use Rattle.planning.proofs.Reached.{stays as stays_in}
use Rattle.planning.proofs.Resulting.{results_is}
use Rattle.judge.specs.Rules.{stays, settles}
use Rattle.judge.specs.Shown.{Shows}
use Rattle.judge.specs.Verdict.{start_answer, tree_count}

-- a formula that is false in a cube is false in each of its states
formula_false : (c : PartialState) (s : ℕ) → In c s → (φ : Formula) → refuted (kleene (truth c) φ) ≡ true → holds (state s) φ ≡ false
formula_false c s i φ e = subst (λ t. Allows t (holds (state s) φ)) (refuted_is _ e) (kleene_sound (truth c) (state s) (has_from c s i.agrees) φ)

-- the cube of a state
pub fine_single : (w s : ℕ) → s < 2 ^ w → Fine (single w s)
fine_single w s h = record { inside = omega (arith, pow_pos w); part = and_mask s w ∙ mod-eq_of_lt h }

pub in_single : (w s : ℕ) → s < 2 ^ w → In (single w s) s
in_single w s h = record { below = h; agrees = and_mask s w ∙ mod-eq_of_lt h }

in_whole : (w s : ℕ) → s < 2 ^ w → In (whole w) s
in_whole w s h = record { below = h; agrees = and_zero_r s }

-- an operator that is there has a number below theirs
found_below : {X : Type 0} (xs : List X) (i : ℕ) (x : X) → slice_get xs i ≡ Some x → i < length xs
found_below [] i x e = let z : ◌≡◌ {A = ℕ} 0 1 = cc in absurd (omega arith)
found_below (y ∷ xs) zero x e = omega arith
found_below (y ∷ xs) (suc i) x e = omega (arith, found_below xs i x e)

module _ (wide : ℕ) (has : ℕ → Bool) (ask : PartialState → Truth) (laws : Laws wide has ask) where
  -- what an answer claims
  claims : (c : PartialState) → Fine c → c.width ≡ wide → (a : Truth) → ask c ≡ a → Claims a has c
  claims c fine w a e = subst (λ x. Claims x has c) e (laws.holds c fine w)

  -- a cube that is answered inside has the set's width
  pub same_width : (c : PartialState) → ask c ≡ Inside → c.width ≡ wide
  same_width c e = ⊎_elim (λ h. h) (λ h. absurd (differ (sym (laws.other c h) ∙ e))) (cases_eq c.width wide)
    where
      differ : Outside ≡ Inside → ⊥
      differ d = let z : ◌≡◌ {A = ℕ} 0 1 = cc in omega arith

  not_outside : (c : PartialState) → Fine c → c.width ≡ wide → (s : ℕ) → In c s → has s ≡ true → refuted (ask c) ≡ true → ⊥
  not_outside c fine w s i h e = both_ways (has s) (claims c fine w Outside (refuted_is (ask c) e) s i) h

  module _ (m : Model) (wf : WellFormed m) (start : start_answer m ask ≡ Inside) (cover : EachCovers (settles ask m) (whole m.variables) (tree_count m)) where
    width_is : m.variables ≡ wide
    width_is = same_width (single m.variables m.start) start

    below : (s : ℕ) → has s ≡ true → s < 2 ^ m.variables
    below s h = subst (λ w. s < 2 ^ w) (sym width_is) (laws.within s h)

    begins : has m.start ≡ true
    begins = claims (single m.variables m.start) (fine_single _ _ wf.start) width_is Inside start m.start (in_single _ _ wf.start)

    goal_false : (s : ℕ) → has s ≡ true → holds (state s) m.goal ≡ false
    goal_false s h =
        let c = cover 0 (omega arith) s (in_whole m.variables s (below s h)) in
        ⊎_elim
        (λ out. absurd (not_outside c.cube c.fine (c.wide ∙ width_is) s c.state h out))
        (λ no. formula_false c.cube s c.state m.goal no)
        (or_cases _ _ c.good)

    closed : (s o t : ℕ) → has s ≡ true → Steps m s o t → has t ≡ true
    closed s o t h step =
        let a = step.operator in
        let c = cover (suc o) (omega (arith, found_below m.operators o a step.is)) s (in_whole m.variables s (below s h)) in
        let next = successor a.effect c.cube in
        let is : result c.cube.width a.effect s ≡ t = ap (λ w. result w a.effect s) c.wide ∙ sym (results_is m.variables a.effect s t step.gives) in
        ⊎_elim
        (λ out. absurd (not_outside c.cube c.fine (c.wide ∙ width_is) s c.state h out))
        (λ kept. ⊎_elim
        (λ no. absurd (both_ways _ (formula_false c.cube s c.state a.precondition no) step.applies))
        (λ into. subst (λ x. has x ≡ true) is
        (claims next (from_fine c.cube.width (λ v. kleene (truth c.cube) (after v a.effect))) (c.wide ∙ width_is) Inside (sure_is (ask next) into) _ (successor_has a.effect c.cube s c.state)))
        (or_cases (refuted (kleene (truth c.cube) a.precondition)) (sure (ask next)) (subst (λ x. stays ask x c.cube ≡ true) step.is kept)))
        (or_cases _ _ c.good)

    pub proof_shows : Shows m has
    proof_shows = record {
      reached = reached;
      unsolvable = λ os t led goal. both_ways _ (goal_false t (reached t (os, led))) goal;
    }
      where
        reached : (s : ℕ) → Reachable m s → has s ≡ true
        reached s r = stays_in m has closed m.start r.0 s begins r.1
