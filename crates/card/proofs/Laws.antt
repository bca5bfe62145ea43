-- The law over every history: each call keeps it.
use Rattle.std.proofs.Common.{◌≡◌, ℕ, ◌≤◌, Bool, true, ◌⊎◌, List, [], ◌∷◌, ◌++◌, length, Some, None, Ok, Err, Option, sym, refl, ap, ◌∙◌, subst, inl, inr, ⊎_elim, arith}
use Rattle.std.proofs.lemmas.Bool.{cond_both, cond-false, false≢true, le-ltb}
use Rattle.logic.specs.Partial.{PartialState}
use Rattle.logic.specs.declared.truth.Truth.{Truth}
use Rattle.records.specs.Single.{and_then}
use Rattle.costs.specs.Kind.{Kind, Ordered}
use Rattle.planning.specs.Model.{Model}
use Rattle.planning.specs.Leads.{Unsolvable}
use Rattle.task.specs.declared.place.Task.{Task}
use Rattle.task.specs.Held.{model}
use Rattle.plans.specs.declared.verdict.Reached.{Reached as ReachedState}
use Rattle.plans.specs.Verdicts.{Answer, begin, next, run, finished as finish_verdict, judged, plan_verdict, steps_in}
use Rattle.plans.proofs.Exact.{judged_to, run_to, accepted_to}
use Rattle.plans.proofs.Running.{run_push, run_few}
use Rattle.judge.specs.Verdict.{proof_verdict}
use Rattle.card.specs.declared.card.Card.{Card}
use Rattle.card.specs.declared.card.Walk.{Walk}
use Rattle.card.specs.declared.card.Verdict.{Verdict}
use Rattle.card.specs.declared.card.Verdict.TheVariants.{Plan, Proof}
use Rattle.card.specs.Cards.{Ruling, opened, better, noted, ruled, set_out, moved}
use Rattle.card.specs.History.{Event, planned, proved, begun, stepped, finished, given_up, History, In, Costs, Shows, Achieved, Disproved, longer, newest, Right, AllRight}
use Rattle.card.specs.Law.{Complete, Best, Says, Keeps, Walks}

-- ---- no card shows both cost and mark

module _ {C : Type 0} (K : Kind C) (m : Model) where
  achieved_solves : (os : List ℕ) (r : ReachedState C) → judged K m os ≡ Ok r → Unsolvable m → ⊥
  achieved_solves os r e none = let a = judged_to K m os r e in none os r.state a.leads a.goal

  costs_solve : (h : History C) (e : Event C) (c : C) → Right K m h e → Costs e c → Unsolvable m → ⊥
  costs_solve h (planned p (Ok r)) c right costs none =
      let a = accepted_to K m p r (sym right.1) in none (steps_in a.0) r.state a.2.leads a.2.goal
  costs_solve h (planned p (Err f)) c right costs none = costs
  costs_solve h (proved s p a) c right costs none = costs
  costs_solve h begun c right costs none = costs
  costs_solve h (stepped o a) c right costs none = costs
  costs_solve h (finished (Ok r)) c right costs none = achieved_solves right.0 r (sym right.2) none
  costs_solve h (finished (Err f)) c right costs none = costs
  costs_solve h given_up c right costs none = costs

  right_in : (h : History C) (e : Event C) → AllRight K m h → In e h → (g : History C) × Right K m g e
  right_in [] e all i = absurd i
  right_in (d ∷ h) e all i = ⊎_elim (λ (p : e ≡ d). (h, subst (Right K m h) (sym p) all.0)) (λ i. right_in h e all.1 i) i

  never_both : (h : History C) (o : Option C) (b : Bool) → (b ≡ true → Unsolvable m) → Best K (Achieved h) o → AllRight K m h → (c : C) → o ≡ Some c → b ≡ true → ⊥
  never_both h None b sound best all c e mark = cc
  never_both h (Some d) b sound best all c e mark =
      let a = best.0 in
      let r = right_in h a.0 all a.1 in
      costs_solve r.0 a.0 d r.1 a.2 (sound mark)

-- ---- the least cost

module _ {C : Type 0} {K : Kind C} (k : Ordered K) where
  le_refl : (a : C) → K.le a a ≡ true
  le_refl a = ⊎_elim (λ h. h) (λ h. h) (k.total a a)

  best_same : {P Q : C → Type 0} → ((d : C) → P d → Q d) → ((d : C) → Q d → P d) → (o : Option C) → Best K P o → Best K Q o
  best_same to from None b = λ d q. b d (from d q)
  best_same to from (Some c) b = (to c b.0, λ d q. b.1 d (from d q))

  -- one cost more
  best_more : {P Q : C → Type 0} (c : C) → ((d : C) → P d → Q d) → Q c → ((d : C) → Q d → (c ≡ d) ⊎ P d) → (o : Option C) → Best K P o → Best K Q (Some (better K o c))
  best_more c to here from None b = (here, λ d q. ⊎_elim (λ e. subst (λ x. K.le c x ≡ true) e (le_refl c)) (λ p. absurd (b d p)) (from d q))
  best_more {P} {Q} c to here from (Some a) b =
      cond_both (K.le a c) a c (λ x. Q x × ((d : C) → Q d → K.le x d ≡ true))
      (λ h. (to a b.0, λ d q. ⊎_elim (λ e. subst (λ x. K.le a x ≡ true) e h) (b.1 d) (from d q)))
      (λ h. let less : K.le c a ≡ true = ⊎_elim (λ e. absurd (false≢true (sym h ∙ e))) (λ e. e) (k.total a c) in
      (here, λ d q. ⊎_elim (λ e. subst (λ x. K.le c x ≡ true) e (le_refl c)) (λ p. k.trans c a d less (b.1 d p)) (from d q)))

  -- ---- one event more

  module _ (m : Model) (h : History C) (card : Card C) (e : Event C) (s : Says K m h card) (right : Right K m h e) where
    achieved_later : (d : C) → Achieved h d → Achieved (e ∷ h) d
    achieved_later d r = (r.0, inr r.1, r.2)

    achieved_from : (d : C) → Achieved (e ∷ h) d → Costs e d ⊎ Achieved h d
    achieved_from d r = ⊎_elim (λ p. inl (subst (λ x. Costs x d) p r.2)) (λ i. inr (r.0, i, r.2)) r.1

    disproved_later : Disproved h → Disproved (e ∷ h)
    disproved_later r = (r.0, inr r.1, r.2)

    disproved_from : Disproved (e ∷ h) → Shows e ⊎ Disproved h
    disproved_from r = ⊎_elim (λ p. inl (subst Shows p r.2)) (λ i. inr (r.0, i, r.2)) r.1

    -- an event that brings no cost and no mark
    says_quiet : (v : Option (Verdict C)) → v ≡ newest (e ∷ h) → ((d : C) → Costs e d → ⊥) → (Shows e → ⊥) → Says K m (e ∷ h) (record { task = card.task; cost = card.cost; impossible = card.impossible; verdict = v })
    says_quiet v is free dumb = record {
      same = s.same;
      impossible = (λ b. disproved_later (s.impossible.0 b), λ r. ⊎_elim (λ x. absurd (dumb x)) s.impossible.1 (disproved_from r));
      sound = s.sound;
      cheapest = best_same achieved_later (λ d r. ⊎_elim (λ x. absurd (free d x)) (λ x. x) (achieved_from d r)) card.cost s.cheapest;
      complete = s.complete;
      answers = (right, s.answers);
      latest = is;
      either = s.either;
    }

    -- an accepted plan or walk
    says_cost : (r : ReachedState C) → Some (Plan (Ok r)) ≡ newest (e ∷ h) → Costs e r.cost → ((d : C) → Costs e d → r.cost ≡ d) → (Shows e → ⊥) → Says K m (e ∷ h) (noted K card (Ok r))
    says_cost r is here only dumb =
        let best = best_more r.cost achieved_later (e, inl refl, here) (λ d r. ⊎_elim (λ x. inl (only d x)) inr (achieved_from d r)) card.cost s.cheapest in
        record {
          same = s.same;
          impossible = (λ b. disproved_later (s.impossible.0 b), λ r. ⊎_elim (λ x. absurd (dumb x)) s.impossible.1 (disproved_from r));
          sound = s.sound;
          cheapest = best;
          complete = s.complete;
          answers = (right, s.answers);
          latest = is;
          either = never_both K m (e ∷ h) (Some (better K card.cost r.cost)) card.impossible s.sound best (right, s.answers);
        }

    -- an accepted proof
    says_proof : Some (Proof (Ok tt)) ≡ newest (e ∷ h) → Shows e → Unsolvable m → ((d : C) → Costs e d → ⊥) → Says K m (e ∷ h) (ruled card (Ok tt))
    says_proof is shows none free =
        let best = best_same achieved_later (λ d r. ⊎_elim (λ x. absurd (free d x)) (λ x. x) (achieved_from d r)) card.cost s.cheapest in
        record {
          same = s.same;
          impossible = (λ b. (e, inl refl, shows), λ r. refl);
          sound = λ b. none;
          cheapest = best;
          complete = s.complete;
          answers = (right, s.answers);
          latest = is;
          either = never_both K m (e ∷ h) card.cost true (λ b. none) best (right, s.answers);
        }

  -- ---- the calls of a card

  pub keeps_opened : (t : Task) (card : Card C) → card ≡ opened t → Complete (model t) → Keeps K (model t) [] card
  keeps_opened t card e complete =
      subst (Keeps K (model t) []) (sym e)
      (record {
        says = record {
          same = refl;
          impossible = (λ b. absurd (false≢true b), λ r. absurd r.1);
          sound = λ b. absurd (false≢true b);
          cheapest = λ d r. r.1;
          complete = complete;
          answers = tt;
          latest = refl;
          either = λ c x b. absurd (false≢true b);
        };
        idle = refl;
      })

  planned_says : (m : Model) (h : History C) (card : Card C) (p : List ℕ) (a : Answer C) → Says K m h card → Right K m h (planned p a) → Says K m (planned p a ∷ h) (noted K card a)
  planned_says m h card p (Ok r) s right = says_cost m h card _ s right r refl refl (λ d x. x) (λ x. x)
  planned_says m h card p (Err f) s right = says_quiet m h card _ s right _ refl (λ d x. x) (λ x. x)

  finished_says : (m : Model) (h : History C) (card : Card C) (a : Answer C) → Says K m h card → Right K m h (finished a) → Says K m (finished a ∷ h) (noted K card a)
  finished_says m h card (Ok r) s right = says_cost m h card _ s right r refl refl (λ d x. x) (λ x. x)
  finished_says m h card (Err f) s right = says_quiet m h card _ s right _ refl (λ d x. x) (λ x. x)

  proved_says : (m : Model) (h : History C) (card : Card C) (s : PartialState → Truth) (p : List ℕ) (a : Ruling) → (a ≡ Ok tt → Unsolvable m) → Says K m h card → Right K m h (proved s p a) → Says K m (proved s p a ∷ h) (ruled card a)
  proved_says m h card set p (Ok u) none s right = says_proof m h card _ s right refl tt (none refl) (λ d x. x)
  proved_says m h card set p (Err f) none s right = says_quiet m h card _ s right _ refl (λ d x. x) (λ x. x)

  pub keeps_plan : (card after : Card C) (p : List ℕ) (a : Answer C) → a ≡ plan_verdict K (model card.task) p → after ≡ noted K card a → (m : Model) (h : History C) → Keeps K m h card → Keeps K m (planned p a ∷ h) after
  keeps_plan card after p a answer e m h s =
      subst (Keeps K m (planned p a ∷ h)) (sym e)
      (record { says = planned_says m h card p a s.says (s.idle, answer ∙ ap (λ u. plan_verdict K u p) s.says.same); idle = refl })

  pub keeps_proof : (card after : Card C) (set : PartialState → Truth) (p : List ℕ) (a : Ruling) → a ≡ proof_verdict (model card.task) set p → (a ≡ Ok tt → Unsolvable (model card.task)) → after ≡ ruled card a → (m : Model) (h : History C) → Keeps K m h card → Keeps K m (proved set p a ∷ h) after
  keeps_proof card after set p a answer none e m h s =
      subst (Keeps K m (proved set p a ∷ h)) (sym e)
      (record {
        says = proved_says m h card set p a (λ ok. subst Unsolvable s.says.same (none ok)) s.says (s.idle, answer ∙ ap (λ u. proof_verdict u set p) s.says.same);
        idle = refl;
      })

  pub walks_begun : (card : Card C) (w : Walk C) → w ≡ set_out K card → (m : Model) (h : History C) → Keeps K m h card → Walks K m (begun ∷ h) w
  walks_begun card w e m h s =
      subst (Walks K m (begun ∷ h)) (sym e)
      (record { says = says_quiet m h card begun s.says s.idle card.verdict s.says.latest (λ d x. x) (λ x. x); steps = []; under_way = refl; stands = ap (λ x. Ok (begin K x)) (sym s.says.same) })

  -- ---- the calls of a walk

  module _ (w : Walk C) (o : ℕ) (m : Model) (h : History C) (s : Walks K m h w) where
    told : (a : Answer C) → a ≡ next K (model w.card.task) w.reached o → a ≡ next K m w.reached o
    told a answer = answer ∙ ap (λ u. next K u w.reached o) s.says.same

    stepped_says : (a : Answer C) → a ≡ next K (model w.card.task) w.reached o → Says K m (stepped o a ∷ h) w.card
    stepped_says a answer =
        says_quiet m h w.card (stepped o a) s.says (s.steps, w.reached, s.under_way, s.stands, told a answer) w.card.verdict s.says.latest (λ d x. x) (λ x. x)

    moves : (a : Answer C) → a ≡ next K (model w.card.task) w.reached o → Walks K m (stepped o a ∷ h) (moved w a)
    moves (Ok r) answer = record {
      says = stepped_says (Ok r) answer;
      steps = s.steps ++ (o ∷ []);
      under_way = ap (λ x. longer x o) s.under_way;
      stands = run_push K m (begin K m) w.reached s.steps o s.stands ∙ sym (told (Ok r) answer);
    }
    moves (Err f) answer = record { says = stepped_says (Err f) answer; steps = s.steps; under_way = s.under_way; stands = s.stands }

  pub walks_step : (w after : Walk C) (o : ℕ) (a : Answer C) → a ≡ next K (model w.card.task) w.reached o → after ≡ moved w a → (m : Model) (h : History C) → Walks K m h w → Walks K m (stepped o a ∷ h) after
  walks_step w after o a answer e m h s = subst (Walks K m (stepped o a ∷ h)) (sym e) (moves w o m h s a answer)

  -- a walk is judged as the plan of its accepted steps
  walk_judged : (m : Model) (os : List ℕ) (r : ReachedState C) → run K m (begin K m) os ≡ Ok r → judged K m os ≡ finish_verdict m r
  walk_judged m os r e =
      let few : length os ≤ 4096 = omega (arith, run_few K m os (begin K m) r (omega arith) e, (run_to K m os (begin K m) r e).steps) in
      cond-false _ _ _ (le-ltb 4096 (length os) few) ∙ ap (λ x. and_then x (finish_verdict m)) e

  pub keeps_finish : (w : Walk C) (after : Card C) (a : Answer C) → a ≡ finish_verdict (model w.card.task) w.reached → after ≡ noted K w.card a → (m : Model) (h : History C) → Walks K m h w → Keeps K m (finished a ∷ h) after
  keeps_finish w after a answer e m h s =
      subst (Keeps K m (finished a ∷ h)) (sym e)
      (record {
        says = finished_says m h w.card a s.says (s.steps, s.under_way, answer ∙ ap (λ u. finish_verdict u w.reached) s.says.same ∙ sym (walk_judged m s.steps w.reached s.stands));
        idle = refl;
      })

  pub keeps_given_up : (w : Walk C) (m : Model) (h : History C) → Walks K m h w → Keeps K m (given_up ∷ h) w.card
  keeps_given_up w m h s = record { says = says_quiet m h w.card given_up s.says (s.steps, s.under_way) w.card.verdict s.says.latest (λ d x. x) (λ x. x); idle = refl }
