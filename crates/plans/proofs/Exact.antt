-- A plan is accepted exactly when it leads to the goal.
use Rattle.std.proofs.Common.{◌≡◌, ℕ, ◌+◌, ◌<◌, ◌≤◌, Bool, true, false, cond, ltb, List, [], ◌∷◌, length, get_or, Some, None, Ok, Err, Option, option_and_then, Result, sym, refl, ap, ◌∙◌, subst, arith}
use Rattle.std.proofs.lemmas.Bool.{cond-true, cond-false, lt-ltb, le-ltb, ltb-true}
use Rattle.std.specs.List.{slice_get}
use Rattle.records.specs.declared.PaperKind.TheVariants.{Plan}
use Rattle.records.specs.Single.{and_then, single_in}
use Rattle.records.specs.Walks.{map_err}
use Rattle.records.proofs.Written.{single_holds, holds_single}
use Rattle.costs.specs.Kind.{Kind}
use Rattle.formulas.specs.Formula.{holds}
use Rattle.formulas.specs.Results.{state, result}
use Rattle.task.specs.declared.stepping.StepFault.TheVariants.{Inapplicable}
use Rattle.task.specs.Meaning.{arrival, tried, arrived}
use Rattle.planning.specs.Model.{Action, Model}
use Rattle.planning.specs.Leads.{Steps, Leads}
use Rattle.planning.proofs.Resulting.{results_from, results_is}
use Rattle.plans.specs.declared.verdict.Reached.{Reached}
use Rattle.plans.specs.declared.verdict.PlanFault.TheVariants.{Record, TooManySteps, GoalFalse}
use Rattle.plans.specs.Verdicts.{reached, steps_in, charged, taken, next, run, begin, finished, judged, plan_verdict}
use Rattle.plans.specs.Achieves.{cost_from, Achieves, Accepted, Exact}

cond_ok : {X E : Type 0} (b : Bool) (x : Result X E) (f : E) (q : X) → cond b x (Err f) ≡ Ok q → (b ≡ true) × (x ≡ Ok q)
cond_ok true x f q e = (refl, e)
cond_ok false x f q e = cc

cond_bad : {X E : Type 0} (b : Bool) (x : Result X E) (f : E) (q : X) → cond b (Err f) x ≡ Ok q → (b ≡ false) × (x ≡ Ok q)
cond_bad true x f q e = cc
cond_bad false x f q e = (refl, e)

then_ok : {X Y E : Type 0} (x : Result X E) (f : X → Result Y E) (q : Y) → and_then x f ≡ Ok q → (p : X) × (x ≡ Ok p) × (f p ≡ Ok q)
then_ok (Ok p) f q e = (p, refl, e)
then_ok (Err d) f q e = cc

map_ok : {X E F : Type 0} (g : E → F) (x : Result X E) (p : X) → map_err g x ≡ Ok p → x ≡ Ok p
map_ok g (Ok y) p e = let is : y ≡ p = cc in ap Ok is
map_ok g (Err d) p e = cc

some_some : {A B : Type 0} (x : Option A) (f : A → Option B) (b : B) → option_and_then f x ≡ Some b → (a : A) × (x ≡ Some a) × (f a ≡ Some b)
some_some None f b e = cc
some_some (Some a) f b e = (a, refl, e)

module _ {C : Type 0} (K : Kind C) (m : Model) where
  -- one step
  pub record Next (r : Reached C) (o : ℕ) (q : Reached C) : Type 0 where
    pub room : r.steps < 4096
    pub step : Steps m r.state o q.state
    pub steps : q.steps ≡ r.steps + 1
    pub cost : K.join r.cost (K.one step.operator.minutes step.operator.crew) ≡ Some q.cost

  charged_to : (t k : ℕ) (x : Option C) (q : Reached C) → charged t k x ≡ Ok q → (x ≡ Some q.cost) × (t ≡ q.state) × (q.steps ≡ k + 1)
  charged_to t k None q e = cc
  charged_to t k (Some c) q e =
      let is : reached t (k + 1) c ≡ q = cc in
      (ap (λ x. Some x.cost) is, ap (λ x. x.state) is, sym (ap (λ x. x.steps) is))

  fit : (r : Reached C) (q : Reached C) (h : Bool) (t mi cr : ℕ) → taken K r (cond h (Ok (arrival t mi cr)) (Err Inapplicable)) ≡ Ok q → (h ≡ true) × (charged t r.steps (K.join r.cost (K.one mi cr)) ≡ Ok q)
  fit r q true t mi cr e = (refl, e)
  fit r q false t mi cr e = cc

  taken_to : (r : Reached C) (q : Reached C) (x : Option Action) → taken K r (tried m.variables r.state x) ≡ Ok q
      → (a : Action) × (x ≡ Some a) × (holds (state r.state) a.precondition ≡ true) × (charged (result m.variables a.effect r.state) r.steps (K.join r.cost (K.one a.minutes a.crew)) ≡ Ok q)
  taken_to r q None e = cc
  taken_to r q (Some a) e =
      let p = fit r q (holds (state r.state) a.precondition) (result m.variables a.effect r.state) a.minutes a.crew e in
      (a, refl, p.0, p.1)

  next_to : (r : Reached C) (o : ℕ) (q : Reached C) → next K m r o ≡ Ok q → Next r o q
  next_to r o q e =
      let p = cond_ok (ltb r.steps 4096) _ TooManySteps q e in
      let t = taken_to r q (slice_get m.operators o) p.1 in
      let a = t.0 in
      let c = charged_to (result m.variables a.effect r.state) r.steps (K.join r.cost (K.one a.minutes a.crew)) q t.3 in
      record {
        room = ltb-true r.steps 4096 p.0;
        step = record { operator = a; is = t.1; applies = t.2; gives = subst (λ (u : ℕ). Rattle.planning.specs.Leads.Results m.variables a.effect r.state u) c.1 (results_from m.variables a.effect r.state) };
        steps = c.2;
        cost = c.0;
      }

  next_from : (r : Reached C) (o : ℕ) (q : Reached C) → Next r o q → next K m r o ≡ Ok q
  next_from r o q n =
      let a = n.step.operator in
      let w = result m.variables a.effect r.state in
      cond-true _ _ _ (lt-ltb r.steps 4096 n.room)
      ∙ ap (λ x. taken K r (tried m.variables r.state x)) n.step.is
      ∙ ap (λ h. taken K r (cond h (Ok (arrival w a.minutes a.crew)) (Err Inapplicable))) n.step.applies
      ∙ ap (charged w r.steps) n.cost
      ∙ λ i. Ok (reached (sym (results_is m.variables a.effect r.state q.state n.step.gives) i) (sym n.steps i) q.cost)

  -- all steps
  pub record Ran (r : Reached C) (os : List ℕ) (q : Reached C) : Type 0 where
    pub leads : Leads m r.state os q.state
    pub steps : q.steps ≡ r.steps + length os
    pub cost : cost_from K m r.cost os ≡ Some q.cost

  pub run_to : (os : List ℕ) (r q : Reached C) → run K m r os ≡ Ok q → Ran r os q
  run_to [] r q e =
      let is : r ≡ q = cc in
      record { leads = ap (λ x. x.state) is; steps = omega (arith, ap (λ x. x.steps) is); cost = ap (λ x. Some x.cost) is }
  run_to (o ∷ os) r q e =
      let t = then_ok (next K m r o) (λ p. run K m p os) q e in
      let p = t.0 in
      let n = next_to r o p t.1 in
      let later = run_to os p q t.2 in
      record {
        leads = (p.state, n.step, later.leads);
        steps = omega (arith, later.steps, n.steps);
        cost =
            ap (λ x. option_and_then (λ a. option_and_then (λ d. cost_from K m d os) (K.join r.cost (K.one a.minutes a.crew))) x) n.step.is
            ∙ ap (λ x. option_and_then (λ d. cost_from K m d os) x) n.cost ∙ later.cost;
      }

  run_from : (os : List ℕ) (r q : Reached C) → r.steps + length os ≤ 4096 → Ran r os q → run K m r os ≡ Ok q
  run_from [] r q few a =
      let steps : r.steps ≡ q.steps = omega (arith, a.steps) in
      let cost : r.cost ≡ q.cost = let e = a.cost in cc in
      λ i. Ok (reached (a.leads i) (steps i) (cost i))
  run_from (o ∷ os) r q few a =
      let u = a.leads.0 in
      let s = a.leads.1 in
      let act = s.operator in
      let paid = some_some (K.join r.cost (K.one act.minutes act.crew)) (λ d. cost_from K m d os) q.cost
      (sym (ap (λ x. option_and_then (λ a. option_and_then (λ d. cost_from K m d os) (K.join r.cost (K.one a.minutes a.crew))) x) s.is) ∙ a.cost) in
      let p : Reached C = reached u (r.steps + 1) paid.0 in
      let n : Next r o p = record { room = omega arith; step = s; steps = refl; cost = paid.1 } in
      ap (λ x. and_then x (λ p. run K m p os)) (next_from r o p n)
      ∙ run_from os p q (omega arith) (record { leads = a.leads.2; steps = omega (arith, a.steps); cost = paid.2 })

  pub judged_to : (os : List ℕ) (q : Reached C) → judged K m os ≡ Ok q → Achieves K m os q
  judged_to os q e =
      let p = cond_bad (ltb 4096 (length os)) _ TooManySteps q e in
      let t = then_ok (run K m (begin K m) os) (finished m) q p.1 in
      let f = cond_ok (arrived m t.0.state) (Ok t.0) (GoalFalse t.0.steps) q t.2 in
      let is : t.0 ≡ q = let e = f.1 in cc in
      let a = run_to os (begin K m) q (t.1 ∙ ap Ok is) in
      record {
        few = omega (arith, Rattle.std.proofs.lemmas.Bool.ltb-false 4096 (length os) p.0);
        leads = a.leads;
        goal = ap (λ x. arrived m x.state) (sym is) ∙ f.0;
        steps = omega (arith, a.steps);
        cost = a.cost;
      }

  judged_from : (os : List ℕ) (q : Reached C) → Achieves K m os q → judged K m os ≡ Ok q
  judged_from os q a =
      cond-false _ _ _ (le-ltb 4096 (length os) a.few)
      ∙ ap (λ x. and_then x (finished m)) (run_from os (begin K m) q (omega (arith, a.few)) (record { leads = a.leads; steps = omega (arith, a.steps); cost = a.cost }))
      ∙ cond-true _ _ _ a.goal

  -- an accepted paper has a body, whose operators achieve what is answered
  pub accepted_to : (paper : List ℕ) (q : Reached C) → plan_verdict K m paper ≡ Ok q → (body : List ℕ) × (single_in Plan paper ≡ Ok body) × Achieves K m (steps_in body) q
  accepted_to paper q e =
      let t = then_ok (map_err Record (single_in Plan paper)) (λ body. judged K m (steps_in body)) q e in
      (t.0, map_ok Record (single_in Plan paper) t.0 t.1, judged_to (steps_in t.0) q t.2)

  pub exact : (paper : List ℕ) → ((i : ℕ) → get_or paper i 0 < 256) → Exact K m paper (plan_verdict K m paper)
  exact paper bytes q = (to, from)
    where
      to : plan_verdict K m paper ≡ Ok q → Accepted K m paper q
      to e = let t = accepted_to paper q e in record { body = t.0; written = single_holds Plan paper bytes t.0 t.1; achieves = t.2 }

      from : Accepted K m paper q → plan_verdict K m paper ≡ Ok q
      from a =
          ap (λ x. and_then (map_err Record x) (λ body. judged K m (steps_in body))) (holds_single Plan paper a.body a.written)
          ∙ judged_from (steps_in a.body) q a.achieves
