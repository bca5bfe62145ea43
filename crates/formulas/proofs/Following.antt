-- A node more in a table: what was lawful stays so.
use Rattle.std.proofs.Common.{◌≡◌, ℕ, ◌-◌, ◌<◌, ◌≤◌, Bool, true, not, ◌&&◌, ltb, List, [], ◌∷◌, ◌++◌, length, get_or, take, refl, ap, ◌∙◌, ap₂, ⊎_elim, arith, length-append, take_all}
use lib.Seq.{take-append-le}
use Rattle.std.proofs.lemmas.List.{get_or_append_left, get_or-append_right}
use Rattle.std.proofs.lemmas.Bool.{ltb-true, lt-ltb, and_parts, and_from, cases_lt}
use Rattle.formulas.specs.declared.node.Node.{Node}
use Rattle.formulas.specs.declared.node.Node.TheVariants.{False, True, Variable, Not, And, Or, Empty, Set, Clear, Both, When}
use Rattle.formulas.specs.Sorts.{formula_node}
use Rattle.formulas.specs.Orders.{formula_below, effect_below}
use Rattle.formulas.specs.Lawful.{is_formula, is_effect, lawful, Lawful}
use Rattle.formulas.specs.Names.{Each, children}

-- what a number names, and its place
sort_more : (sort : Node → Bool) (xs ys : List Node) (i : ℕ) → (ltb i (length xs) && sort (get_or xs i False)) ≡ true → (ltb i (length (xs ++ ys)) && sort (get_or (xs ++ ys) i False)) ≡ true
sort_more sort xs ys i h =
    let p = and_parts _ _ h in
    let below : i < length xs = ltb-true i (length xs) p.0 in
    and_from _ _ (lt-ltb i (length (xs ++ ys)) (omega (arith, length-append xs ys))) (ap sort (get_or_append_left xs ys False i below) ∙ p.1)

pub formula_more : (xs ys : List Node) (i : ℕ) → is_formula xs i ≡ true → is_formula (xs ++ ys) i ≡ true
formula_more = sort_more formula_node

pub effect_more : (xs ys : List Node) (i : ℕ) → is_effect xs i ≡ true → is_effect (xs ++ ys) i ≡ true
effect_more = sort_more (λ x. not (formula_node x))

pub lawful_push : (n : ℕ) (xs : List Node) (x : Node) → Lawful n xs → lawful n xs x ≡ true → Lawful n (xs ++ (x ∷ []))
lawful_push n xs x all here i h =
    ⊎_elim (λ (k : i < length xs). ap₂ (lawful n) (take-append-le i xs (x ∷ []) (omega arith)) (get_or_append_left xs (x ∷ []) False i k) ∙ all i k)
    (λ (k : length xs ≤ i).
    let is : i ≡ length xs = omega (arith, length-append xs (x ∷ [])) in
    let front : take i (xs ++ (x ∷ [])) ≡ xs = ap (λ q. take q (xs ++ (x ∷ []))) is ∙ take-append-le (length xs) xs (x ∷ []) (omega arith) ∙ take_all (length xs) xs (omega arith) in
    let none : i - length xs ≡ 0 = omega (arith, is) in
    let last : get_or (xs ++ (x ∷ [])) i False ≡ x = get_or-append_right xs (x ∷ []) (length xs) i False refl k ∙ ap (λ q. get_or (x ∷ []) q False) none in
    ap₂ (lawful n) front last ∙ here)
    (cases_lt i (length xs))

-- the nodes that a lawful node names come before it
pub children_below : (n : ℕ) (xs : List Node) (x : Node) (limit : ℕ) → length xs ≤ limit → lawful n xs x ≡ true → Each (λ c. c < limit) (children x)
children_below n xs False l k h = tt
children_below n xs True l k h = tt
children_below n xs (Variable v) l k h = tt
children_below n xs (Not a) l k h = (omega (arith, formula_below xs a h), tt)
children_below n xs (And a b) l k h = let p = and_parts (is_formula xs a) (is_formula xs b) h in (omega (arith, formula_below xs a p.0), (omega (arith, formula_below xs b p.1), tt))
children_below n xs (Or a b) l k h = let p = and_parts (is_formula xs a) (is_formula xs b) h in (omega (arith, formula_below xs a p.0), (omega (arith, formula_below xs b p.1), tt))
children_below n xs Empty l k h = tt
children_below n xs (Set v) l k h = tt
children_below n xs (Clear v) l k h = tt
children_below n xs (Both a b) l k h = let p = and_parts (is_effect xs a) (is_effect xs b) h in (omega (arith, effect_below xs a p.0), (omega (arith, effect_below xs b p.1), tt))
children_below n xs (When a b) l k h = let p = and_parts (is_formula xs a) (is_effect xs b) h in (omega (arith, formula_below xs a p.0), (omega (arith, effect_below xs b p.1), tt))
