-- A task that takes in one entry more.
use Rattle.std.proofs.Common.{◌≡◌, ℕ, ◌-◌, ◌<◌, ◌≤◌, Bool, true, false, List, [], ◌∷◌, ◌++◌, length, get_or, is_some, Some, None, Option, sym, refl, ap, ◌∙◌, subst, ⊎_elim, arith, length-append}
use Rattle.std.proofs.lemmas.List.{get_or_append_left, get_or-append_right, append-nil}
use Rattle.std.proofs.lemmas.Bool.{and_parts, and_from, not-true, cases_lt}
use Rattle.formulas.specs.declared.node.Node.{Node}
use Rattle.formulas.specs.Orders.{formula_below, effect_below}
use Rattle.formulas.specs.Lawful.{is_formula, is_effect, lawful, Lawful}
use Rattle.formulas.specs.Names.{children, node_names, among, clash, claimed, Once}
use Rattle.formulas.specs.Marks.{Marks, Claimed}
use Rattle.formulas.proofs.Claims.{among_middle, among_deep, node_names_push, marks_same, once_middle, once_deep}
use Rattle.formulas.proofs.Following.{formula_more, effect_more, lawful_push}
use Rattle.task.specs.declared.entries.Operator.{Operator}
use Rattle.task.specs.Values.{Value, value, with_goal, names, operator_names, goal_names}
use Rattle.task.specs.Sound.{rooted, Rooted, aims}

-- the numbers of roots
pub root_below : (xs : List Node) (g : ℕ) → length xs ≤ 1024 → is_formula xs g ≡ true → g < 1024
root_below xs g few h = omega (arith, formula_below xs g h)

pub roots_below : (xs : List Node) (o : Operator) → length xs ≤ 1024 → rooted xs o ≡ true → (o.precondition < 1024) × (o.effect < 1024)
roots_below xs o few h =
    let p = and_parts (is_formula xs o.precondition) (is_effect xs o.effect) h in
    (omega (arith, formula_below xs o.precondition p.0), omega (arith, effect_below xs o.effect p.1))

-- the rules
pub ruled_push : (n : ℕ) {ys : List Node} (xs : List Node) (x : Node) → ys ≡ xs ++ (x ∷ []) → Lawful n xs → lawful n xs x ≡ true → Lawful n ys
ruled_push n xs x is all here = subst (Lawful n) (sym is) (lawful_push n xs x all here)

pub rooted_more : {ys : List Node} (xs zs : List Node) (os : List Operator) → ys ≡ xs ++ zs → Rooted xs os → Rooted ys os
rooted_more xs zs os is all =
    subst (λ (q : List Node). Rooted q os) (sym is)
    (λ i d h. let p = and_parts (is_formula xs (get_or os i d).precondition) (is_effect xs (get_or os i d).effect) (all i d h) in
    and_from _ _ (formula_more xs zs _ p.0) (effect_more xs zs _ p.1))

pub aims_more : {ys : List Node} (xs zs : List Node) (g : Option ℕ) → ys ≡ xs ++ zs → aims xs g ≡ true → aims ys g ≡ true
aims_more xs zs None is h = refl
aims_more xs zs (Some g) is h = subst (λ (q : List Node). is_formula q g ≡ true) (sym is) (formula_more xs zs g h)

pub rooted_push : (xs : List Node) {ps : List Operator} (os : List Operator) (o : Operator) → ps ≡ os ++ (o ∷ []) → Rooted xs os → rooted xs o ≡ true → Rooted xs ps
rooted_push xs os o is all here = subst (Rooted xs) (sym is) each
  where
    each : Rooted xs (os ++ (o ∷ []))
    each i d h =
        ⊎_elim (λ (k : i < length os). ap (rooted xs) (get_or_append_left os (o ∷ []) d i k) ∙ all i d k)
        (λ (k : length os ≤ i).
        let none : i - length os ≡ 0 = omega (arith, length-append os (o ∷ [])) in
        ap (rooted xs) (get_or-append_right os (o ∷ []) (length os) i d refl k ∙ ap (λ q. get_or (o ∷ []) q d) none) ∙ here)
        (cases_lt i (length os))

pub none_is : (o : Option ℕ) → is_some o ≡ false → o ≡ None
none_is None e = refl
none_is (Some x) e = absurd (let z : ◌≡◌ {A = ℕ} 0 1 = cc in omega arith)

-- an answer that each name is new
pub fresh_is : {m : List Bool} {cs ns : List ℕ} {r : Bool} → Claimed m cs r ns → r ≡ true → clash ns cs ≡ false
fresh_is k e = not-true _ (sym k.fresh ∙ e)

-- the marks
operator_names_push : (os : List Operator) (o : Operator) → operator_names (os ++ (o ∷ [])) ≡ operator_names os ++ (o.precondition ∷ o.effect ∷ [])
operator_names_push [] o = refl
operator_names_push (p ∷ os) o = ap (λ q. p.precondition ∷ p.effect ∷ q) (operator_names_push os o)

module _ {m : List Bool} (v : Value) where
  pub node_marks : (x : Node) (ys : List Node) → ys ≡ v.nodes ++ (x ∷ []) → Marks m (claimed (names v) (children x)) → Marks m (names (value v.n v.start ys v.operators v.goal))
  node_marks x ys more =
      let rest : List ℕ = operator_names v.operators ++ goal_names v.goal in
      let is : node_names ys ≡ node_names v.nodes ++ children x = ap node_names more ∙ node_names_push v.nodes x in
      marks_same (λ j. among_middle j (node_names v.nodes) (children x) rest ∙ ap (λ q. among j (q ++ rest)) (sym is))

  pub operator_marks : (o : Operator) (os : List Operator) → os ≡ v.operators ++ (o ∷ []) → Marks m (claimed (names v) (o.precondition ∷ o.effect ∷ [])) → Marks m (names (value v.n v.start v.nodes os v.goal))
  operator_marks o os more =
      let is : operator_names os ≡ operator_names v.operators ++ (o.precondition ∷ o.effect ∷ []) = ap operator_names more ∙ operator_names_push v.operators o in
      marks_same (λ j. among_deep j (node_names v.nodes) (operator_names v.operators) (o.precondition ∷ o.effect ∷ []) (goal_names v.goal) ∙ ap (λ q. among j (node_names v.nodes ++ (q ++ goal_names v.goal))) (sym is))

  pub goal_marks : (g : ℕ) → v.goal ≡ None → Marks m (claimed (names v) (g ∷ [])) → Marks m (names (with_goal v g))
  goal_marks g is =
      marks_same (λ j.
      ap (λ q. among j (claimed (node_names v.nodes ++ (operator_names v.operators ++ goal_names q)) (g ∷ []))) is
      ∙ among_deep j (node_names v.nodes) (operator_names v.operators) (g ∷ []) []
      ∙ ap (λ q. among j (node_names v.nodes ++ q)) (append-nil (operator_names v.operators ++ (g ∷ []))))

-- the names once more
module _ (v : Value) (all : Once (names v)) where
  pub node_once : (x : Node) (ys : List Node) → ys ≡ v.nodes ++ (x ∷ []) → clash (names v) (children x) ≡ false → Once (names (value v.n v.start ys v.operators v.goal))
  node_once x ys more fresh =
      let rest : List ℕ = operator_names v.operators ++ goal_names v.goal in
      let is : node_names ys ≡ node_names v.nodes ++ children x = ap node_names more ∙ node_names_push v.nodes x in
      subst (λ (q : List ℕ). Once (q ++ rest)) (sym is) (once_middle (node_names v.nodes) (children x) rest fresh all)

  pub operator_once : (o : Operator) (os : List Operator) → os ≡ v.operators ++ (o ∷ []) → clash (names v) (o.precondition ∷ o.effect ∷ []) ≡ false → Once (names (value v.n v.start v.nodes os v.goal))
  operator_once o os more fresh =
      let is : operator_names os ≡ operator_names v.operators ++ (o.precondition ∷ o.effect ∷ []) = ap operator_names more ∙ operator_names_push v.operators o in
      subst (λ (q : List ℕ). Once (node_names v.nodes ++ (q ++ goal_names v.goal))) (sym is) (once_deep (node_names v.nodes) (operator_names v.operators) (o.precondition ∷ o.effect ∷ []) (goal_names v.goal) fresh all)

  pub goal_once : (g : ℕ) → v.goal ≡ None → clash (names v) (g ∷ []) ≡ false → Once (names (with_goal v g))
  goal_once g is fresh =
      let front : List ℕ = node_names v.nodes in
      let middle : List ℕ = operator_names v.operators in
      let fresh' : clash (front ++ (middle ++ [])) (g ∷ []) ≡ false = subst (λ (q : Option ℕ). clash (front ++ (middle ++ goal_names q)) (g ∷ []) ≡ false) is fresh in
      let all' : Once (front ++ (middle ++ [])) = subst (λ (q : Option ℕ). Once (front ++ (middle ++ goal_names q))) is all in
      subst (λ (q : List ℕ). Once (front ++ q)) (append-nil (middle ++ (g ∷ []))) (once_deep front middle (g ∷ []) [] fresh' all')
