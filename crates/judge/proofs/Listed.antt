-- A list tells its empty cubes.
use Rattle.std.proofs.Common.{◌≡◌, ℕ, zero, suc, ◌+◌, ◌^◌, ◌<◌, ◌≤◌, Bool, true, false, eqb, List, Ok, sym, refl, ap, ◌∙◌, subst, ap₂, ⊎_elim, arith}
use Rattle.std.proofs.lemmas.Bool.{both_ways, cases_Bool, cond-true, eqb-true, eq-eqb, ltb-true, ltb-false, or_left, or_right}
use Rattle.logic.specs.Partial.{PartialState, holds_state, free_count}
use Rattle.logic.specs.Words.{digit}
use Rattle.logic.specs.declared.truth.Truth.{Truth}
use Rattle.logic.specs.declared.truth.Truth.TheVariants.{False as Outside}
use Rattle.sets.specs.Sets.{Laws, Claims}
use Rattle.setpapers.specs.Count.{tally, listed, rising}
use Rattle.setpapers.specs.Counted.{tally_none, listed_within}
use Rattle.setpapers.specs.Lists.{states, state_at, list_has, answer_of, list_answer}
use Rattle.setpapers.specs.ListLaws.{list_laws}
use Rattle.planning.specs.Model.{Model, WellFormed}
use Rattle.planning.specs.Leads.{Unsolvable}
use Rattle.judge.specs.Complete.{HasReachable, TellsEmpty}
use Rattle.judge.specs.Lists.{holds_listed, plain_of, ListPlain}
use Rattle.judge.specs.Plain.{Finds}
use Rattle.judge.specs.Verdict.{body_judged}
use Rattle.judge.proofs.Completely.{plain_accepted}
use Rattle.judge.proofs.Plainest.{plain_is_plain}

-- ---- counts of a row

tally_zero : (p : ℕ → Bool) (e : ℕ → ℕ) (n : ℕ) → ((x : ℕ) → listed e n x ≡ true → p x ≡ false) → tally p e n ≡ 0
unfolding tally listed
tally_zero p e zero h = refl
tally_zero p e (suc n) h =
    let before = tally_zero p e n (λ x l. h x (or_right _ _ l)) in
    let here = h (e n) (or_left _ _ (eq-eqb (e n) (e n) refl)) in
    ap₂ (λ a b. a + digit b) before here

-- a count above 0 has a witness
some_held : (p : ℕ → Bool) (e : ℕ → ℕ) (n : ℕ) → 0 < tally p e n → (x : ℕ) × (listed e n x ≡ true) × (p x ≡ true)
unfolding tally listed
some_held p e zero h = absurd (omega arith)
some_held p e (suc n) h =
    ⊎_elim
    (λ yes'. (e n, or_left _ _ (eq-eqb (e n) (e n) refl), yes'))
    (λ not'. let m = some_held p e n (omega (arith, h, ap digit not')) in (m.0, or_right _ _ m.1, m.2))
    (cases_Bool (p (e n)))

-- ---- the list of some bytes

pub list_finds : (bs : List ℕ) → Finds (list_has bs) (holds_listed bs)
list_finds bs = record {
  some = λ c h. let m = some_held (holds_state c) (state_at bs) (states bs) (ltb-true _ _ h) in (m.0, m.1, eqb-true _ _ m.2);
  none = λ c h s l k.
      let few = ltb-false 0 (tally (holds_state c) (state_at bs) (states bs)) h in
      both_ways _ (tally_none (state_at bs) (holds_state c) (states bs) (omega (arith, few)) s l) (eq-eqb _ _ k);
}

pub list_plain : ListPlain
list_plain bs = plain_is_plain (list_has bs) (holds_listed bs) (list_finds bs)

module _ (w : ℕ) (bs : List ℕ) (r : rising w (state_at bs) (states bs) ≡ true) (ask : PartialState → Truth) (same : (c : PartialState) → ask c ≡ list_answer w bs c) where
  -- a set that answers as the list does keeps the list's laws
  laws_same : Laws w (list_has bs) ask
  laws_same =
      let laws = list_laws w bs r in
      record {
        within = laws.within;
        holds = λ c fine is. subst (λ a. Claims a (list_has bs) c) (sym (same c)) (laws.holds c fine is);
        other = λ c apart. same c ∙ laws.other c apart;
      }

  tells_empty : TellsEmpty w (list_has bs) ask
  tells_empty c fine is clear =
      let none = tally_zero (holds_state c) (state_at bs) (states bs) apart in
      same c ∙ cond-true (eqb c.width w) _ Outside (eq-eqb _ _ is) ∙ ap (λ t. answer_of t (2 ^ free_count c)) none
    where
      apart : (x : ℕ) → list_has bs x ≡ true → holds_state c x ≡ false
      apart x l =
          ⊎_elim
          (λ h. absurd (clear x (record { below = subst (λ v. x < 2 ^ v) (sym is) (listed_within w (state_at bs) (states bs) x r l); agrees = eqb-true _ _ h }) l))
          (λ h. h)
          (cases_Bool (holds_state c x))

pub list_accepted : (m : Model) → WellFormed m → m.variables ≤ 255 → Unsolvable m → (bs : List ℕ) → rising m.variables (state_at bs) (states bs) ≡ true → HasReachable m (list_has bs) → (ask : PartialState → Truth) → ((c : PartialState) → ask c ≡ list_answer m.variables bs c) → body_judged m ask (plain_of m bs) ≡ Ok tt
list_accepted m wf narrow none bs r reach ask same =
    plain_accepted m wf (list_has bs) ask (laws_same m.variables bs r ask same) none reach (tells_empty m.variables bs r ask same) narrow (holds_listed bs) (list_finds bs)
