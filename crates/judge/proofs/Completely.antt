-- The reachable states of an unsolvable task settle what their plain proof asks.
use Rattle.std.proofs.Common.{◌≡◌, ℕ, zero, suc, ◌^◌, ◌<◌, ◌≤◌, Bool, true, false, List, [], ◌∷◌, ◌++◌, length, Some, Ok, sym, refl, ap, ◌∙◌, subst, ⊎_elim, arith}
use lib.Bits.{bit_and}
use Rattle.std.specs.List.{AllByRecursion, slice_get}
use Rattle.std.proofs.lemmas.Bool.{both_ways, cases_Bool, or_left, or_right}
use Rattle.logic.specs.Contained.{truth_single}
use Rattle.logic.specs.Kleene.{given, refuted, sure}
use Rattle.logic.specs.Partial.{PartialState, Fine, truth, single}
use Rattle.formulas.specs.Formula.{Formula, kleene, holds}
use Rattle.formulas.specs.Results.{state, result, successor}
use Rattle.formulas.specs.Within.{Within, kleene_total}
use Rattle.formulas.proofs.After.{successor_single}
use Rattle.logic.specs.declared.truth.Truth.{Truth}
use Rattle.logic.specs.declared.truth.Truth.TheVariants.{True as Inside, False as Outside, Open}
use Rattle.sets.specs.Sets.{Claims, Laws}
use Rattle.planning.specs.Model.{Action, Model, ActionWithin, WellFormed}
use Rattle.planning.specs.Leads.{Steps, Unsolvable}
use Rattle.planning.proofs.Reached.{leads_more}
use Rattle.planning.proofs.Resulting.{results_from}
use Rattle.judge.specs.Complete.{HasReachable, TellsEmpty}
use Rattle.judge.specs.Plain.{Finds, plain_body}
use Rattle.judge.specs.Rules.{stays, settles}
use Rattle.judge.specs.Verdict.{tree_count, body_judged}
use Rattle.judge.proofs.Judged.{body_accepted}
use Rattle.judge.proofs.Plainly.{Settles, plain_proves}
use Rattle.judge.proofs.Soundly.{fine_single, in_single}

-- an operator of a number, and what is so of each is so of it
there : {X : Type 0} (xs : List X) (i : ℕ) → i < length xs → (x : X) × (slice_get xs i ≡ Some x)
there [] i h = absurd (omega arith)
there (x ∷ xs) zero h = (x, refl)
there (x ∷ xs) (suc i) h = there xs i (omega arith)

all_nth : {X : Type 0} (P : X → Type 0) (xs : List X) (i : ℕ) (x : X) → AllByRecursion P xs → slice_get xs i ≡ Some x → P x
all_nth P [] i x all e = let z : ◌≡◌ {A = ℕ} 0 1 = cc in absurd (omega arith)
all_nth P (y ∷ xs) zero x all e = let is : y ≡ x = cc in subst P is all.0
all_nth P (y ∷ xs) (suc i) x all e = all_nth P xs i x all.1 e

refuted_not : (b : Bool) → b ≡ false → refuted (given b) ≡ true
refuted_not b e = ap (λ x. refuted (given x)) e

module _ (m : Model) (wf : WellFormed m) (has : ℕ → Bool) (ask : PartialState → Truth) (laws : Laws m.variables has ask) where
  -- the cube of a state of the set is answered inside
  total_inside : (s : ℕ) → has s ≡ true → ask (single m.variables s) ≡ Inside
  total_inside s h = go (ask (single m.variables s)) refl
    where
      below : s < 2 ^ m.variables
      below = laws.within s h

      go : (a : Truth) → ask (single m.variables s) ≡ a → ask (single m.variables s) ≡ Inside
      go Inside e = e
      go Outside e =
          let claim : Claims Outside has (single m.variables s) = subst (λ a. Claims a has (single m.variables s)) e (laws.holds (single m.variables s) (fine_single _ _ below) refl) in
          absurd (both_ways _ (claim s (in_single _ _ below)) h)
      go Open e =
          let claim : Claims Open has (single m.variables s) = subst (λ a. Claims a has (single m.variables s)) e (laws.holds (single m.variables s) (fine_single _ _ below) refl) in
          absurd (claim refl)

  -- a formula that is false in a state is false in its cube
  false_there : (s : ℕ) (φ : Formula) → Within m.variables φ → holds (state s) φ ≡ false → refuted (kleene (truth (single m.variables s)) φ) ≡ true
  false_there s φ within e = ap refuted (kleene_total m.variables (truth (single m.variables s)) (state s) (truth_single m.variables s) φ within) ∙ refuted_not _ e

  module _ (none : Unsolvable m) (reach : HasReachable m has) (empty : TellsEmpty m.variables has ask) where
    apart : (i : ℕ) (c : PartialState) → Fine c → c.width ≡ m.variables → ((s : ℕ) → has s ≡ true → bit_and s c.known ≡ c.value → ⊥) → settles ask m i c ≡ true
    apart i c fine w clear = or_left _ _ (ap refuted (empty c fine w (λ s at h. clear s h at.agrees)))

    goal_settles : Settles m.variables has (settles ask m 0)
    goal_settles = record {
      apart = apart 0;
      total = λ s h. or_right _ _ (false_there s m.goal wf.goal (⊎_elim (λ at. let r = (reach s).0 h in absurd (none r.0 s r.1 at)) (λ no'. no') (cases_Bool (holds (state s) m.goal))));
    }

    -- what an operator leads to from a state of the set is in it
    next : (s i : ℕ) (a : Action) → slice_get m.operators i ≡ Some a → has s ≡ true → holds (state s) a.precondition ≡ true → has (result m.variables a.effect s) ≡ true
    next s i a is h fit =
        let r = (reach s).0 h in
        let t = result m.variables a.effect s in
        let step : Steps m s i t = record { operator = a; is = is; applies = fit; gives = results_from m.variables a.effect s } in
        (reach t).1 (r.0 ++ (i ∷ []), leads_more m m.start r.0 s i t r.1 step)

    stays_there : (s i : ℕ) (a : Action) → slice_get m.operators i ≡ Some a → has s ≡ true → stays ask (Some a) (single m.variables s) ≡ true
    stays_there s i a is h =
        let w = all_nth (ActionWithin m.variables) m.operators i a wf.operators is in
        let c = single m.variables s in
        ⊎_elim
        (λ fit. or_right (refuted (kleene (truth c) a.precondition)) (sure (ask (successor a.effect c)))
        (ap (λ k. sure (ask k)) (successor_single a.effect m.variables s w.effect) ∙ ap sure (total_inside _ (next s i a is h fit))))
        (λ unfit. or_left (refuted (kleene (truth c) a.precondition)) (sure (ask (successor a.effect c))) (false_there s a.precondition w.precondition unfit))
        (cases_Bool (holds (state s) a.precondition))

    operator_settles : (i : ℕ) → i < length m.operators → Settles m.variables has (settles ask m (suc i))
    operator_settles i h = record {
      apart = apart (suc i);
      total = λ s in'. let a = there m.operators i h in or_right _ _ (subst (λ o. stays ask o (single m.variables s) ≡ true) (sym a.1) (stays_there s i a.0 a.1 in'));
    }

    each_settles : (i : ℕ) → i < tree_count m → Settles m.variables has (settles ask m i)
    each_settles zero h = goal_settles
    each_settles (suc i) h = operator_settles i (omega (arith, h))

    pub plain_accepted : m.variables ≤ 255 → (held : PartialState → Bool) → Finds has held → body_judged m ask (plain_body held m.variables (tree_count m)) ≡ Ok tt
    plain_accepted narrow held finds =
        body_accepted m ask narrow (plain_body held m.variables (tree_count m)) (total_inside m.start ((reach m.start).1 ([], refl)))
        (plain_proves m.variables has laws.within held finds (settles ask m) (tree_count m) each_settles)
