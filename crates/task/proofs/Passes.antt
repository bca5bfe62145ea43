-- The second pass finds no fault of the records that the first has not found.
use Rattle.std.proofs.Common.{◌≡◌, ℕ, zero, suc, ◌+◌, ◌^◌, Bool, true, false, cond, not, ◌||◌, eqb, ltb, List, [], ◌∷◌, length, get_or, Some, None, Ok, Err, Option, Result, sym, refl, ap, ◌∙◌, subst, ⊎_elim, arith}
use Rattle.std.proofs.lemmas.Bool.{eqb-true, cond-true, cond-false, or_cases, cases_Bool}
use Rattle.records.specs.Cuts.{Split, cut_at}
use Rattle.records.specs.Single.{and_then}
use Rattle.records.specs.Walks.{map_err, walk}
use Rattle.records.specs.declared.RecordFault.{RecordFault}
use Rattle.records.specs.declared.RecordFault.TheVariants.{WrongKind, WrongLength}
use Rattle.formulas.specs.declared.node.Node.{Node}
use Rattle.formulas.specs.Lawful.{is_formula, lawful}
use Rattle.formulas.specs.Names.{children, clash}
use Rattle.task.specs.declared.faults.TaskFault.{TaskFault}
use Rattle.task.specs.declared.faults.TaskFault.TheVariants.{Record, Header as BadHeader, TooMany, BadNode, NamedTwice}
use Rattle.task.specs.declared.stage.Stage.{Stage}
use Rattle.task.specs.declared.stage.Stage.TheVariants.{Header, Nodes, Operators, Done}
use Rattle.task.specs.declared.entries.Operator.{Operator}
use Rattle.task.specs.declared.entries.Header as header_entry
use Rattle.task.specs.Entries.{header, le2_at, le8_from1, operator_in}
use Rattle.formulas.specs.Written.{decoded}
use Rattle.task.specs.Values.{Value, value, blank, names}
use Rattle.task.specs.Sound.{rooted}
use Rattle.task.specs.Stages.{stage_after, stage_step, records_in}
use Rattle.task.specs.Contents.{begun, node_put, node_added, operator_added, goal_added, content_of, content_step, contents_in, task_in, verdict}

-- what a stage lets the task be
abbrev Fits : Stage → Value → Type 0
Fits Header v = v.goal ≡ None
Fits Nodes v = v.goal ≡ None
Fits Operators v = v.goal ≡ None
Fits Done v = Unit {0}

abbrev Goes : Stage → Result Value TaskFault → Type 0
Goes next (Ok v) = Fits next v
Goes next (Err e) = (f : RecordFault) → e ≡ Record f → ⊥

no_header : (at : ℕ) (f : RecordFault) → ◌≡◌ {A = TaskFault} (BadHeader at) (Record f) → ⊥
no_header at f e = let z : ◌≡◌ {A = ℕ} 0 1 = cc in omega arith

no_many : (at : ℕ) (f : RecordFault) → ◌≡◌ {A = TaskFault} (TooMany at) (Record f) → ⊥
no_many at f e = let z : ◌≡◌ {A = ℕ} 0 1 = cc in omega arith

no_node : (at : ℕ) (f : RecordFault) → ◌≡◌ {A = TaskFault} (BadNode at) (Record f) → ⊥
no_node at f e = let z : ◌≡◌ {A = ℕ} 0 1 = cc in omega arith

no_twice : (at : ℕ) (f : RecordFault) → ◌≡◌ {A = TaskFault} (NamedTwice at) (Record f) → ⊥
no_twice at f e = let z : ◌≡◌ {A = ℕ} 0 1 = cc in omega arith

either : (P : Result Value TaskFault → Type 0) (b : Bool) (x y : Result Value TaskFault) → P x → P y → P (cond b x y)
either P true x y p q = p
either P false x y p q = q

fine_header : (at : ℕ) (h : header_entry.Header) → Goes Nodes (begun at h)
fine_header at h = either (Goes Nodes) (eqb h.n 0 || (ltb 64 h.n || not (ltb h.start (2 ^ h.n)))) (Err (BadHeader at)) (Ok (value h.n h.start [] [] None)) (no_header at) refl

fine_node : (at : ℕ) (v : Value) (x : Option Node) → v.goal ≡ None → Goes Nodes (node_added at v x)
fine_node at v x g = either (Goes Nodes) (ltb (length v.nodes) 1024) _ _ (put x) (no_many at)
  where
    put : (x : Option Node) → Goes Nodes (node_put at v x)
    put None = no_node at
    put (Some x) = either (Goes Nodes) (lawful v.n v.nodes x) _ _ (either (Goes Nodes) (clash (names v) (children x)) _ _ (no_twice at) g) (no_node at)

fine_operator : (at : ℕ) (v : Value) (o : Operator) → v.goal ≡ None → Goes Operators (operator_added at v o)
fine_operator at v o g =
    either (Goes Operators) (ltb (length v.operators) 128) _ _
    (either (Goes Operators) (rooted v.nodes o) _ _ (either (Goes Operators) (clash (names v) (o.precondition ∷ o.effect ∷ [])) _ _ (no_twice at) g) (no_node at))
    (no_many at)

clean_goal : (at : ℕ) (v : Value) (h : Option ℕ) (g : ℕ) → h ≡ None → Goes Done (goal_added at v h g)
clean_goal at v None g e = either (Goes Done) (is_formula v.nodes g) _ _ (either (Goes Done) (clash (names v) (g ∷ [])) _ _ (no_twice at) tt) (no_node at)
clean_goal at v (Some h) g e = absurd (let z : ◌≡◌ {A = ℕ} 0 1 = cc in omega arith)

cond_ok : {X E : Type 0} (b : Bool) (x : Result X E) (f : E) (q : X) → cond b x (Err f) ≡ Ok q → (b ≡ true) × (x ≡ Ok q)
cond_ok true x f q e = (refl, e)
cond_ok false x f q e = absurd (let z : ◌≡◌ {A = ℕ} 0 1 = cc in omega arith)

-- a body of the right size
sized_ok : (b : Bool) (s : Stage) (f : RecordFault) (next : Stage) → cond b (Ok s) (Err f) ≡ Ok next → (b ≡ true) × (s ≡ next)
sized_ok b s f next e = let p = cond_ok b (Ok s) f next e in (p.0, inner p.1)
  where
    inner : ◌≡◌ {A = Result Stage RecordFault} (Ok s) (Ok next) → s ≡ next
    inner q = cc

operator_whole : (at : ℕ) (bs : List ℕ) → (eqb (length bs) 12 || eqb (length bs) 4) ≡ true → (o : Operator) × (operator_in at bs ≡ Ok o)
operator_whole at bs h =
    ⊎_elim
    (λ e. let is : length bs ≡ 12 = eqb-true (length bs) 12 e in (_, cond-false _ _ _ (ap (λ n. eqb n 4) is) ∙ cond-true _ _ _ e))
    (λ e. (_, cond-true _ _ _ e))
    (or_cases (eqb (length bs) 12) (eqb (length bs) 4) h)

module _ (at : ℕ) (body : List ℕ) (v : Value) where
  goes_header : (kind : ℕ) → kind ≡ 1 → eqb (length body) 9 ≡ true → Goes Nodes (content_of at kind body v)
  goes_header kind k h =
      subst (Goes Nodes) (sym (ap (λ q. content_of at q body v) k ∙ ap (λ x. and_then (map_err Record x) (begun at)) (cond-true _ _ _ h)))
      (fine_header at (header (get_or body 0 0) (le8_from1 body)))

  goes_node : (kind : ℕ) → kind ≡ 2 → eqb (length body) 5 ≡ true → v.goal ≡ None → Goes Nodes (content_of at kind body v)
  goes_node kind k h g =
      subst (Goes Nodes) (sym (ap (λ q. content_of at q body v) k ∙ ap (λ x. and_then (map_err Record x) (node_added at v)) (cond-true _ _ _ h)))
      (fine_node at v (decoded (get_or body 0 0) (le2_at body 1 2) (le2_at body 3 4)) g)

  goes_operator : (kind : ℕ) → kind ≡ 3 → (eqb (length body) 12 || eqb (length body) 4) ≡ true → v.goal ≡ None → Goes Operators (content_of at kind body v)
  goes_operator kind k h g =
      let o = operator_whole at body h in
      subst (Goes Operators) (sym (ap (λ q. content_of at q body v) k ∙ ap (λ x. and_then (map_err Record x) (operator_added at v)) o.1))
      (fine_operator at v o.0 g)

  goes_goal : (kind : ℕ) → kind ≡ 4 → eqb (length body) 2 ≡ true → v.goal ≡ None → Goes Done (content_of at kind body v)
  goes_goal kind k h g =
      subst (Goes Done) (sym (ap (λ q. content_of at q body v) k ∙ ap (λ x. and_then (map_err Record x) (goal_added at v v.goal)) (cond-true _ _ _ h)))
      (clean_goal at v v.goal (le2_at body 0 1) g)

  module _ (kind : ℕ) (next : Stage) (g : v.goal ≡ None) where
    late_goes : cond (eqb kind 3) (cond (eqb (length body) 12 || eqb (length body) 4) (Ok Operators) (Err (WrongLength at))) (cond (eqb kind 4) (cond (eqb (length body) 2) (Ok Done) (Err (WrongLength at))) (Err (WrongKind at))) ≡ Ok next → Goes next (content_of at kind body v)
    late_goes h =
        ⊎_elim
        (λ e. let s = sized_ok _ Operators _ next (sym (cond-true _ _ _ e) ∙ h) in
        subst (λ (n : Stage). Goes n (content_of at kind body v)) s.1 (goes_operator kind (eqb-true kind 3 e) s.0 g))
        (λ e. let p = cond_ok (eqb kind 4) _ _ next (sym (cond-false _ _ _ e) ∙ h) in
        let s = sized_ok _ Done _ next p.1 in
        subst (λ (n : Stage). Goes n (content_of at kind body v)) s.1 (goes_goal kind (eqb-true kind 4 p.0) s.0 g))
        (cases_Bool (eqb kind 3))

goes : (stage : Stage) (at kind : ℕ) (body : List ℕ) (v : Value) (next : Stage) → stage_after stage kind (length body) at ≡ Ok next → Fits stage v → Goes next (content_of at kind body v)
goes Header at kind body v next h fit =
    let p = cond_ok (eqb kind 1) _ _ next h in
    let s = sized_ok _ Nodes _ next p.1 in
    subst (λ (n : Stage). Goes n (content_of at kind body v)) s.1 (goes_header at body v kind (eqb-true kind 1 p.0) s.0)
goes Nodes at kind body v next h fit =
    ⊎_elim
    (λ e. let s = sized_ok _ Nodes _ next (sym (cond-true _ _ _ e) ∙ h) in
    subst (λ (n : Stage). Goes n (content_of at kind body v)) s.1 (goes_node at body v kind (eqb-true kind 2 e) s.0 fit))
    (λ e. late_goes at body v kind next fit (sym (cond-false _ _ _ e) ∙ h))
    (cases_Bool (eqb kind 2))
goes Operators at kind body v next h fit = late_goes at body v kind next fit h
goes Done at kind body v next h fit = absurd (let z : ◌≡◌ {A = ℕ} 0 1 = cc in omega arith)

module _ (turns : ℕ) (last : Stage) (f : RecordFault)
    (later : (at : ℕ) (bs : List ℕ) (s : Stage) (v : Value) → walk (λ e. e) stage_step turns at bs s ≡ Ok last → Fits s v → walk Record content_step turns at bs v ≡ Err (Record f) → ⊥)
    (at : ℕ) (s : Stage) (v : Value) (fit : Fits s v) where
  two : (r : Split) (x : Result Stage RecordFault) → stage_step at r s ≡ x → (y : Result Value TaskFault) → content_step at r v ≡ y
      → and_then x (λ t. walk (λ e. e) stage_step turns (at + (6 + length r.body)) r.rest t) ≡ Ok last
      → and_then y (λ t. walk Record content_step turns (at + (6 + length r.body)) r.rest t) ≡ Err (Record f) → ⊥
  two r (Err d) p y q h e = let z : ◌≡◌ {A = ℕ} 0 1 = cc in omega arith
  two r (Ok next) p (Err d) q h e =
      let is : d ≡ Record f = cc in
      subst (Goes next) q (goes s at r.kind r.body v next p fit) f is
  two r (Ok next) p (Ok w) q h e =
      later (at + (6 + length r.body)) r.rest next w h (subst (Goes next) q (goes s at r.kind r.body v next p fit)) e

  onward : (cut : Result Split RecordFault)
      → and_then (map_err (λ e. e) cut) (λ r. and_then (stage_step at r s) (λ t. walk (λ e. e) stage_step turns (at + (6 + length r.body)) r.rest t)) ≡ Ok last
      → and_then (map_err Record cut) (λ r. and_then (content_step at r v) (λ t. walk Record content_step turns (at + (6 + length r.body)) r.rest t)) ≡ Err (Record f) → ⊥
  onward (Err d) h e = let z : ◌≡◌ {A = ℕ} 0 1 = cc in omega arith
  onward (Ok r) h e = two r (stage_step at r s) refl (content_step at r v) refl h e

both_passes : (last : Stage) (f : RecordFault) (turns at : ℕ) (bs : List ℕ) (s : Stage) (v : Value) → walk (λ e. e) stage_step turns at bs s ≡ Ok last → Fits s v → walk Record content_step turns at bs v ≡ Err (Record f) → ⊥
both_passes last f turns at [] s v h fit e = let z : ◌≡◌ {A = ℕ} 0 1 = cc in omega arith
both_passes last f zero at (b ∷ bs) s v h fit e = let z : ◌≡◌ {A = ℕ} 0 1 = cc in omega arith
both_passes last f (suc turns) at (b ∷ bs) s v h fit e =
    onward turns last f (λ at' bs' s' v'. both_passes last f turns at' bs' s' v') at s v fit (cut_at at (b ∷ bs)) h e

walk_ok : {X : Type 0} (b : Bool) (f : RecordFault) (x : Result X RecordFault) (g : X → Result (Unit {0}) RecordFault) → cond b (Err f) (and_then x g) ≡ Ok tt → (last : X) × (x ≡ Ok last)
walk_ok true f x g e = absurd (let z : ◌≡◌ {A = ℕ} 0 1 = cc in omega arith)
walk_ok false f (Ok last) g e = (last, refl)
walk_ok false f (Err d) g e = absurd (let z : ◌≡◌ {A = ℕ} 0 1 = cc in omega arith)

-- a paper whose records are in order has no fault of its records
pub no_record_fault : (paper : List ℕ) → records_in paper ≡ Ok tt → (f : RecordFault) → contents_in paper ≡ Err (Record f) → ⊥
no_record_fault paper h f e =
    let p = walk_ok _ _ (walk (λ e. e) stage_step (length paper) 0 paper Header) _ h in
    both_passes p.0 f (length paper) 0 paper Header blank p.1 refl e

failed : (x : Result Value TaskFault) (e : TaskFault) → verdict x ≡ Err e → x ≡ Err e
failed (Ok v) e h = absurd (let z : ◌≡◌ {A = ℕ} 0 1 = cc in omega arith)
failed (Err d) e h = let is : d ≡ e = cc in ap Err is

-- a fault of the records is the one that the first pass finds
pub record_first : (paper : List ℕ) (f : RecordFault) → verdict (task_in paper) ≡ Err (Record f) → records_in paper ≡ Err f
record_first paper f = go (records_in paper) refl
  where
    go : (x : Result (Unit {0}) RecordFault) → records_in paper ≡ x → verdict (and_then (map_err Record x) (λ _. contents_in paper)) ≡ Err (Record f) → x ≡ Err f
    go (Ok u) p h = absurd (no_record_fault paper p f (failed (contents_in paper) (Record f) h))
    go (Err d) p h = let is : d ≡ f = cc in ap Err is
