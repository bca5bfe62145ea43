-- The steps of a plan, read from its body one after another.
use Rattle.std.proofs.Common.{◌≡◌, ℕ, ◌+◌, ◌/◌, ◌<◌, ◌≤◌, Bool, true, false, cond, ltb, List, [], ◌∷◌, ◌++◌, length, get_or, map, suc, Some, None, Ok, Err, Option, Result, sym, refl, ap, ◌∙◌, arith}
use Rattle.std.specs.Simd.{first_chunks}
use Rattle.std.proofs.lemmas.Bool.{cond-true, cond-false, lt-ltb, le-ltb, ltb-true}
use Rattle.task.specs.declared.stepping.Arrival.{Arrival}
use Rattle.task.specs.declared.stepping.StepFault.{StepFault}
use Rattle.task.specs.declared.stepping.StepFault.TheVariants.{Missing, Inapplicable}
use Rattle.task.specs.Meaning.{stepped}
use Rattle.records.specs.Cuts.{le2}
use Rattle.records.specs.declared.PaperKind.TheVariants.{Plan}
use Rattle.records.specs.Single.{and_then, single_in}
use Rattle.records.specs.Walks.{map_err}
use Rattle.costs.specs.Kind.{Kind}
use Rattle.planning.specs.Model.{Model}
use Rattle.plans.specs.declared.verdict.Reached.{Reached}
use Rattle.plans.specs.declared.verdict.PlanFault.TheVariants.{Record, TooManySteps}
use Rattle.plans.specs.Verdicts.{Answer, reached, steps_in, charged, taken, next, run, begin, finished, judged, plan_verdict}

-- the operator that two bytes number
abbrev pub operator_of : List ℕ → ℕ
operator_of p = le2 (get_or p 0 0) (get_or p 1 0)

-- a body's steps are the operators of its pairs
pub steps_paired : (bs : List ℕ) → steps_in bs ≡ map operator_of (first_chunks 2 (length bs / 2) bs)
steps_paired [] = refl
steps_paired (a ∷ []) = refl
steps_paired (a ∷ b ∷ bs) =
    let more : suc (length bs / 2) ≡ length (a ∷ b ∷ bs) / 2 = omega arith in
    ap (λ os. le2 a b ∷ os) (steps_paired bs) ∙ ap (λ k. map operator_of (first_chunks 2 k (a ∷ b ∷ bs))) more

pub length_steps : (bs : List ℕ) → length (steps_in bs) ≡ length bs / 2
length_steps [] = refl
length_steps (a ∷ []) = refl
length_steps (a ∷ b ∷ bs) = omega (arith, length_steps bs)

module _ {C : Type 0} (K : Kind C) (m : Model) where
  module _ (paper body : List ℕ) (is : Ok body ≡ single_in Plan paper) where
    opened : plan_verdict K m paper ≡ judged K m (steps_in body)
    opened = ap (λ x. and_then (map_err Record x) (λ bs. judged K m (steps_in bs))) (sym is)

    pub too_many : 4096 < length body / 2 → Err TooManySteps ≡ plan_verdict K m paper
    too_many h = sym (opened ∙ cond-true _ _ _ (lt-ltb 4096 (length (steps_in body)) (omega (arith, length_steps body))))

    pub few_enough : length body / 2 ≤ 4096 → (x : Answer C) → x ≡ run K m (begin K m) (steps_in body) → plan_verdict K m paper ≡ and_then x (finished m)
    few_enough h x e =
        opened ∙ cond-false _ _ _ (le-ltb 4096 (length (steps_in body)) (omega (arith, length_steps body)))
        ∙ ap (λ y. and_then y (finished m)) (sym e)

  -- a sequence in two parts
  then_append : (os ps : List ℕ) → ((q : Reached C) → run K m q (os ++ ps) ≡ and_then (run K m q os) (λ q. run K m q ps)) → (x : Answer C) → and_then x (λ q. run K m q (os ++ ps)) ≡ and_then (and_then x (λ q. run K m q os)) (λ q. run K m q ps)
  then_append os ps on (Ok q) = on q
  then_append os ps on (Err f) = refl

  pub run_append : (r : Reached C) (os ps : List ℕ) → run K m r (os ++ ps) ≡ and_then (run K m r os) (λ q. run K m q ps)
  run_append r [] ps = refl
  run_append r (o ∷ os) ps = then_append os ps (λ q. run_append q os ps) (next K m r o)

  -- one step more
  pub run_push : (r q : Reached C) (os : List ℕ) (o : ℕ) → run K m r os ≡ Ok q → run K m r (os ++ (o ∷ [])) ≡ next K m q o
  run_push r q os o e = run_append r os (o ∷ []) ∙ ap (λ x. and_then x (λ p. run K m p (o ∷ []))) e ∙ one (next K m q o)
    where
      one : (x : Answer C) → and_then x (λ p. Ok p) ≡ x
      one (Ok p) = refl
      one (Err f) = refl

  -- no more than 4,096 steps are taken
  next_few : (r : Reached C) (o : ℕ) (q : Reached C) → next K m r o ≡ Ok q → q.steps ≤ 4096
  next_few r o q e = go (ltb r.steps 4096) refl e
    where
      charged_steps : (t k : ℕ) (x : Option C) → charged t k x ≡ Ok q → q.steps ≡ k + 1
      charged_steps t k None e = cc
      charged_steps t k (Some c) e = let is : reached t (k + 1) c ≡ q = cc in sym (ap (λ x. x.steps) is)

      taken_steps : (s : Result Arrival StepFault) → taken K r s ≡ Ok q → q.steps ≡ r.steps + 1
      taken_steps (Err Missing) e = cc
      taken_steps (Err Inapplicable) e = cc
      taken_steps (Ok a) e = charged_steps a.state r.steps (K.join r.cost (K.one a.minutes a.crew)) e

      go : (b : Bool) → ltb r.steps 4096 ≡ b → cond b (taken K r (stepped m r.state o)) (Err TooManySteps) ≡ Ok q → q.steps ≤ 4096
      go true l e = omega (arith, taken_steps (stepped m r.state o) e, ltb-true r.steps 4096 l)
      go false l e = cc

  then_few : (os : List ℕ) (q : Reached C) → ((p : Reached C) → p.steps ≤ 4096 → run K m p os ≡ Ok q → q.steps ≤ 4096) → (x : Answer C) → ((p : Reached C) → x ≡ Ok p → p.steps ≤ 4096) → and_then x (λ p. run K m p os) ≡ Ok q → q.steps ≤ 4096
  then_few os q on (Ok p) few e = on p (few p refl) e
  then_few os q on (Err f) few e = cc

  pub run_few : (os : List ℕ) (r q : Reached C) → r.steps ≤ 4096 → run K m r os ≡ Ok q → q.steps ≤ 4096
  run_few [] r q few e = let is : r ≡ q = cc in omega (arith, ap (λ x. x.steps) is)
  run_few (o ∷ os) r q few e = then_few os q (λ p. run_few os p q) (next K m r o) (λ p. next_few r o p) e
