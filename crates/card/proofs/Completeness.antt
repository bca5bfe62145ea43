-- Where no sequence leads to the goal, the list of the reachable states is accepted with its plain proof.
use Rattle.std.proofs.Common.{◌≡◌, ℕ, zero, suc, ◌≤◌, Bool, true, cond, List, Ok, Err, refl, ap, ◌∙◌, arith}
use Rattle.std.proofs.lemmas.Bool.{cond-true, cond-false, le-ltb}
use Rattle.records.specs.declared.PaperKind.TheVariants.{List as ListPaper, Proof as ProofPaper}
use Rattle.records.specs.Papers.{Holds}
use Rattle.records.specs.Single.{and_then}
use Rattle.records.specs.Walks.{map_err}
use Rattle.records.proofs.Written.{holds_single}
use Rattle.setpapers.specs.declared.fault.SetFault.TheVariants.{Record as SetRecord, BadEntry}
use Rattle.setpapers.specs.Count.{rises}
use Rattle.setpapers.specs.Lists.{states, state_at, list_verdict, list_answer, list_in}
use Rattle.setpapers.specs.Papers.{accepted}
use Rattle.setpapers.specs.Rows.{all, all_parts, first, next}
use Rattle.planning.specs.Model.{Model, WellFormed}
use Rattle.judge.specs.declared.fault.ProofFault.TheVariants.{Record as ProofRecord}
use Rattle.judge.specs.Lists.{plain_of}
use Rattle.judge.specs.Verdict.{body_judged}
use Rattle.judge.proofs.Listed.{list_accepted}
use Rattle.card.specs.Law.{ListsReachable, Complete}

-- a row that keeps its rule has no first fault
first_none : (p : ℕ → Bool) (n : ℕ) → all p n ≡ true → first p n ≡ Ok tt
unfolding first
first_none p zero a = refl
first_none p (suc n) a =
    let parts = all_parts p n a in
    ap (λ x. next x (cond (p n) (Ok tt) (Err (BadEntry n)))) (first_none p n parts.0) ∙ cond-true (p n) (Ok tt) (Err (BadEntry n)) parts.1

module _ (m : Model) (body : List ℕ) (lists : ListsReachable m body) where
  list_read : (paper : List ℕ) → Holds ListPaper body paper → list_in m.variables paper ≡ Ok body
  list_read paper held =
      ap (λ x. and_then (map_err SetRecord x) (λ b. accepted b (list_verdict m.variables b))) (holds_single ListPaper paper body held)
      ∙ ap (accepted body)
      (cond-false _ _ _ (le-ltb 1024 (states body) lists.few) ∙ cond-false _ _ _ (le-ltb (states body) 0 (omega arith))
      ∙ first_none (rises m.variables (state_at body)) (states body) lists.ascending)

pub completes : (m : Model) → WellFormed m → m.variables ≤ 64 → Complete m
completes m formed narrow none body list proof lists listed written = (
  list_read m body lists list listed,
  ap (λ x. and_then (map_err ProofRecord x) (body_judged m (list_answer m.variables body))) (holds_single ProofPaper proof (plain_of m body) written)
      ∙ list_accepted m formed (omega arith) none body lists.ascending lists.reachable (list_answer m.variables body) (λ c. refl),
)
