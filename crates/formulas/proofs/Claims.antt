-- Names claimed one after another, and where names stand among others.
use Rattle.std.proofs.Common.{◌≡◌, ℕ, ◌+◌, ◌≤◌, Bool, true, false, cond, not, ◌||◌, eqb, List, [], ◌∷◌, ◌++◌, sym, refl, ap, ◌∙◌, append_assoc, arith}
use Rattle.std.proofs.lemmas.Bool.{not-true, or_parts, eqb-true}
use Rattle.formulas.specs.declared.node.Node.{Node}
use Rattle.formulas.specs.Names.{children, node_names, among, clash, claimed, times, Once}
use Rattle.formulas.specs.Marks.{Marks, Claimed}

pub claimed_two : (ns : List ℕ) (a b : ℕ) {m n : List Bool} (q r : Bool) → Claimed m (a ∷ []) q ns → q ≡ true → (Marks m (a ∷ ns) → Claimed n (b ∷ []) r (a ∷ ns)) → Claimed n (a ∷ b ∷ []) r ns
claimed_two ns a b q r first was next =
    let second = next (first.marks was) in
    let free : among a ns ≡ false = (or_parts _ _ (not-true _ (sym first.fresh ∙ was))).0 in
    record { fresh = second.fresh ∙ ap (λ x. not (x || clash (a ∷ ns) (b ∷ []))) (sym free); marks = second.marks }

or_swap : (x y z : Bool) → ((x || y) || z) ≡ (y || (x || z))
or_swap true true z = refl
or_swap true false z = refl
or_swap false true z = refl
or_swap false false z = refl

pub or_assoc : (x y z : Bool) → ((x || y) || z) ≡ (x || (y || z))
or_assoc true y z = refl
or_assoc false y z = refl

or_none : (x : Bool) → x ≡ (x || false)
or_none true = refl
or_none false = refl

pub among_append : (j : ℕ) (xs ys : List ℕ) → among j (xs ++ ys) ≡ (among j xs || among j ys)
among_append j [] ys = refl
among_append j (x ∷ xs) ys = ap (λ q. eqb j x || q) (among_append j xs ys) ∙ sym (or_assoc (eqb j x) (among j xs) (among j ys))

pub among_claimed : (j : ℕ) (ns cs : List ℕ) → among j (claimed ns cs) ≡ (among j ns || among j cs)
among_claimed j ns [] = or_none (among j ns)
among_claimed j ns (c ∷ cs) = among_claimed j (c ∷ ns) cs ∙ or_swap (eqb j c) (among j ns) (among j cs)

-- names put in the middle
pub among_middle : (j : ℕ) (xs cs ys : List ℕ) → among j (claimed (xs ++ ys) cs) ≡ among j ((xs ++ cs) ++ ys)
among_middle j xs cs ys =
    among_claimed j (xs ++ ys) cs ∙ ap (λ q. q || among j cs) (among_append j xs ys) ∙ turn (among j xs) (among j ys) (among j cs)
    ∙ ap (λ q. q || among j ys) (sym (among_append j xs cs)) ∙ sym (among_append j (xs ++ cs) ys)
  where
    turn : (x y z : Bool) → ((x || y) || z) ≡ ((x || z) || y)
    turn true y z = refl
    turn false true true = refl
    turn false true false = refl
    turn false false true = refl
    turn false false false = refl

-- and deeper
pub among_deep : (j : ℕ) (ws xs cs ys : List ℕ) → among j (claimed (ws ++ (xs ++ ys)) cs) ≡ among j (ws ++ ((xs ++ cs) ++ ys))
among_deep j ws xs cs ys =
    among_claimed j (ws ++ (xs ++ ys)) cs ∙ ap (λ q. q || among j cs) (among_append j ws (xs ++ ys)) ∙ or_assoc (among j ws) (among j (xs ++ ys)) (among j cs)
    ∙ ap (λ q. among j ws || q) (sym (among_claimed j (xs ++ ys) cs) ∙ among_middle j xs cs ys) ∙ sym (among_append j ws ((xs ++ cs) ++ ys))

pub node_names_push : (xs : List Node) (x : Node) → node_names (xs ++ (x ∷ [])) ≡ node_names xs ++ children x
node_names_push [] x = nil (children x)
  where
    nil : (cs : List ℕ) → cs ++ [] ≡ cs
    nil [] = refl
    nil (c ∷ cs) = ap (λ q. c ∷ q) (nil cs)
node_names_push (y ∷ xs) x = ap (λ q. children y ++ q) (node_names_push xs x) ∙ sym (append_assoc (children y) (node_names xs) (children x))

-- the marks of names that are the same
pub marks_same : {m : List Bool} {ns ps : List ℕ} → ((j : ℕ) → among j ns ≡ among j ps) → Marks m ns → Marks m ps
marks_same e k = record { size = k.size; marked = λ j h. k.marked j h ∙ e j }

-- how often
times_append : (j : ℕ) (xs ys : List ℕ) → times j (xs ++ ys) ≡ times j xs + times j ys
times_append j [] ys = omega arith
times_append j (x ∷ xs) ys = omega (arith, times_append j xs ys)

times_claimed : (j : ℕ) (ns cs : List ℕ) → times j (claimed ns cs) ≡ times j ns + times j cs
times_claimed j ns [] = omega arith
times_claimed j ns (c ∷ cs) = omega (arith, times_claimed j (c ∷ ns) cs)

absent : (j : ℕ) (ns : List ℕ) → among j ns ≡ false → times j ns ≡ 0
absent j [] e = refl
absent j (c ∷ ns) e =
    let p = or_parts (eqb j c) (among j ns) e in
    let here : cond {A = ℕ} (eqb j c) 1 0 ≡ 0 = ap (λ q. cond {A = ℕ} q 1 0) p.0 in
    omega (arith, here, absent j ns p.1)

once_one : (c : ℕ) (ns : List ℕ) → among c ns ≡ false → Once ns → Once (c ∷ ns)
once_one c ns free all j = go (eqb j c) refl
  where
    go : (b : Bool) → eqb j c ≡ b → cond (eqb j c) 1 0 + times j ns ≤ 1
    go true e =
        let is : j ≡ c = eqb-true j c e in
        let none : times j ns ≡ 0 = ap (λ q. times q ns) is ∙ absent c ns free in
        let here : cond {A = ℕ} (eqb j c) 1 0 ≡ 1 = ap (λ q. cond {A = ℕ} q 1 0) e in
        omega arith
    go false e =
        let here : cond {A = ℕ} (eqb j c) 1 0 ≡ 0 = ap (λ q. cond {A = ℕ} q 1 0) e in
        omega (arith, all j)

pub once_claimed : (ns cs : List ℕ) → clash ns cs ≡ false → Once ns → Once (claimed ns cs)
once_claimed ns [] e all = all
once_claimed ns (c ∷ cs) e all =
    let p = or_parts (among c ns) (clash (c ∷ ns) cs) e in
    once_claimed (c ∷ ns) cs p.1 (once_one c ns p.0 all)

pub once_middle : (xs cs ys : List ℕ) → clash (xs ++ ys) cs ≡ false → Once (xs ++ ys) → Once ((xs ++ cs) ++ ys)
once_middle xs cs ys e all j =
    omega (arith, once_claimed (xs ++ ys) cs e all j, times_claimed j (xs ++ ys) cs, times_append j xs ys, times_append j (xs ++ cs) ys, times_append j xs cs)

pub once_deep : (ws xs cs ys : List ℕ) → clash (ws ++ (xs ++ ys)) cs ≡ false → Once (ws ++ (xs ++ ys)) → Once (ws ++ ((xs ++ cs) ++ ys))
once_deep ws xs cs ys e all j =
    omega (arith, once_claimed (ws ++ (xs ++ ys)) cs e all j, times_claimed j (ws ++ (xs ++ ys)) cs, times_append j ws (xs ++ ys), times_append j xs ys, times_append j ws ((xs ++ cs) ++ ys), times_append j (xs ++ cs) ys, times_append j xs cs)
