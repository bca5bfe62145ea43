-- One node more of a formula is read.
use Rattle.std.proofs.Common.{◌≡◌, ℕ, zero, suc, ◌+◌, ◌<◌, ◌≤◌, Bool, true, false, cond, not, ◌&&◌, eqb, ltb, List, [], ◌∷◌, Some, None, Option, sym, refl, ap, ◌∙◌, ⊎_elim, add-one, arith}
use Rattle.std.proofs.lemmas.Bool.{and_parts, and_from, or_from, or_cases, ltb-true, eq-eqb, both_ways, not-true, not_from_false}
use Rattle.formulas.specs.declared.node.Node.{Node}
use Rattle.formulas.specs.declared.node.Node.TheVariants.{False, True, Variable, Not, And, Or, Empty, Set, Clear, Both, When}
use Rattle.formulas.specs.Decode.{ordered}
use Rattle.formulas.specs.Names.{children, among, clash, claimed, Each, times, Once}
use Rattle.formulas.specs.Sorts.{formula_node}
use Rattle.formulas.proofs.Claims.{once_claimed}
use Rattle.setpapers.specs.Rows.{all, all_parts}
use Rattle.setpapers.specs.FormulaSets.{decoded_at, node_or, node_at, named_by, fits, lawful_node, lawful_at, FormulaNode}

-- ---- the marks

below_two : (i a b : ℕ) → i ≤ 1024 → (ltb a i && ltb b i) ≡ true → Each (λ c. c < 1024) (a ∷ b ∷ [])
below_two i a b few o =
    let p = and_parts (ltb a i) (ltb b i) o in (omega (arith, ltb-true a i p.0), (omega (arith, ltb-true b i p.1), tt))

-- a node in order names nodes that have marks
pub children_below : (w i : ℕ) (N : Node) → i ≤ 1024 → ordered w i N ≡ true → Each (λ c. c < 1024) (children N)
children_below w i False few o = tt
children_below w i True few o = tt
children_below w i (Variable v) few o = tt
children_below w i (Not a) few o = (omega (arith, ltb-true a i o), tt)
children_below w i (And a b) few o = below_two i a b few o
children_below w i (Or a b) few o = below_two i a b few o
children_below w i Empty few o = tt
children_below w i (Set v) few o = tt
children_below w i (Clear v) few o = tt
children_below w i (Both a b) few o = below_two i a b few o
children_below w i (When a b) few o = below_two i a b few o

pub named_none : (f : ℕ → Node) → named_by f 0 ≡ []
unfolding named_by
named_none f = refl

pub named_more : (f : ℕ → Node) (i : ℕ) → claimed (named_by f i) (children (f i)) ≡ named_by f (i + 1)
unfolding named_by
named_more f i = ap (named_by f) (sym (add-one i))

-- ---- each node is named at most once

times_more : (j : ℕ) (ns cs : List ℕ) → times j ns ≤ times j (claimed ns cs)
times_more j ns [] = omega arith
times_more j ns (c ∷ cs) = omega (arith, times_more j (c ∷ ns) cs)

present : (j : ℕ) (ns : List ℕ) → among j ns ≡ true → 1 ≤ times j ns
present j [] e = absurd (both_ways _ refl e)
present j (c ∷ ns) e =
    ⊎_elim
    (λ (h : eqb j c ≡ true). let here : cond {A = ℕ} (eqb j c) 1 0 ≡ 1 = ap (λ q. cond {A = ℕ} q 1 0) h in omega arith)
    (λ (h : among j ns ≡ true). omega (arith, present j ns h))
    (or_cases (eqb j c) (among j ns) e)

-- names that stand once do not clash
once_apart : (ns cs : List ℕ) → Once (claimed ns cs) → clash ns cs ≡ false
once_apart ns [] all = refl
once_apart ns (c ∷ cs) all = or_from (among c ns) (clash (c ∷ ns) cs) (free (among c ns) refl) (once_apart (c ∷ ns) cs all)
  where
    free : (b : Bool) → among c ns ≡ b → among c ns ≡ false
    free false e = e
    free true e =
        let here : cond {A = ℕ} (eqb c c) 1 0 ≡ 1 = ap (λ q. cond {A = ℕ} q 1 0) (eq-eqb c c refl) in
        absurd (omega (arith, present c ns e, times_more c (c ∷ ns) cs, all c))

module _ (w : ℕ) (bs : List ℕ) where
  lawful_parts : (i : ℕ) (ns : List ℕ) (o : Option Node) → lawful_node w i ns o ≡ true → clash ns (children (node_or o)) ≡ false
  lawful_parts i ns (Some N) h = not-true _ (and_parts (fits w i N) (not (clash ns (children N))) h).1
  lawful_parts i ns None h = refl

  once_named : (i : ℕ) → all (lawful_at w bs) i ≡ true → Once (named_by (node_at bs) i)
  unfolding named_by
  once_named zero a = λ j. omega arith
  once_named (suc i) a =
      let p = all_parts (lawful_at w bs) i a in
      once_claimed (named_by (node_at bs) i) (children (node_at bs i)) (lawful_parts i (named_by (node_at bs) i) (decoded_at bs i) p.1) (once_named i p.0)

  node_to : (i : ℕ) (o : Option Node) → decoded_at bs i ≡ o → lawful_node w i (named_by (node_at bs) i) o ≡ true → Once (named_by (node_at bs) (suc i)) → FormulaNode w bs i
  node_to i (Some N) e h once =
      let p = and_parts (formula_node N) (ordered w i N) (and_parts (fits w i N) _ h).0 in
      record { node = N; written = e; sort = p.0; order = p.1; once = once }
  node_to i None e h once = absurd (both_ways _ refl h)

  pub formula_node_to : (i : ℕ) → all (lawful_at w bs) (suc i) ≡ true → FormulaNode w bs i
  formula_node_to i a = node_to i (decoded_at bs i) refl (all_parts (lawful_at w bs) i a).1 (once_named (suc i) a)

  pub formula_node_from : (i : ℕ) → FormulaNode w bs i → lawful_at w bs i ≡ true
  unfolding named_by
  formula_node_from i f =
      let is = f.written in
      let apart : clash (named_by (node_at bs) i) (children (node_at bs i)) ≡ false = once_apart (named_by (node_at bs) i) (children (node_at bs i)) f.once in
      let same : clash (named_by (node_at bs) i) (children f.node) ≡ false = ap (λ o. clash (named_by (node_at bs) i) (children (node_or o))) (sym is) ∙ apart in
      ap (lawful_node w i (named_by (node_at bs) i)) is ∙ and_from _ _ (and_from _ _ f.sort f.order) (not_from_false _ same)
