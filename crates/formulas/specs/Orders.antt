-- Nodes that keep the rules name only nodes before them.
use Rattle.std.specs.Prelude.{◌≡◌, ℕ, ◌<◌, ◌≤◌, true, List, length, take, slice_index_or, refl}
use Rattle.std.proofs.Common.{ap, ⊎_elim, arith, length-take}
use Rattle.std.proofs.lemmas.List.{get_or_past}
use Rattle.std.proofs.lemmas.Bool.{ltb-true, lt-ltb, and_parts, and_from, cases_lt}
use Rattle.formulas.specs.declared.node.Node.{Node}
use Rattle.formulas.specs.declared.node.Node.TheVariants.{False, True, Variable, Not, And, Or, Empty, Set, Clear, Both, When}
use Rattle.formulas.specs.Decode.{ordered, Ordered}
use Rattle.formulas.specs.Lawful.{is_formula, is_effect, lawful, Lawful}

pub formula_below : (xs : List Node) (i : ℕ) → is_formula xs i ≡ true → i < length xs
formula_below xs i h = ltb-true i (length xs) (and_parts _ _ h).0

pub effect_below : (xs : List Node) (i : ℕ) → is_effect xs i ≡ true → i < length xs
effect_below xs i h = ltb-true i (length xs) (and_parts _ _ h).0

-- the order that an evaluation needs
orderly : (n i : ℕ) (xs : List Node) (x : Node) → length xs ≤ i → lawful n xs x ≡ true → ordered n i x ≡ true
orderly n i xs False l h = refl
orderly n i xs True l h = refl
orderly n i xs (Variable v) l h = h
orderly n i xs (Not a) l h = lt-ltb a i (omega (arith, formula_below xs a h))
orderly n i xs (And a b) l h = let p = and_parts (is_formula xs a) (is_formula xs b) h in and_from _ _ (lt-ltb a i (omega (arith, formula_below xs a p.0))) (lt-ltb b i (omega (arith, formula_below xs b p.1)))
orderly n i xs (Or a b) l h = let p = and_parts (is_formula xs a) (is_formula xs b) h in and_from _ _ (lt-ltb a i (omega (arith, formula_below xs a p.0))) (lt-ltb b i (omega (arith, formula_below xs b p.1)))
orderly n i xs Empty l h = refl
orderly n i xs (Set v) l h = h
orderly n i xs (Clear v) l h = h
orderly n i xs (Both a b) l h = let p = and_parts (is_effect xs a) (is_effect xs b) h in and_from _ _ (lt-ltb a i (omega (arith, effect_below xs a p.0))) (lt-ltb b i (omega (arith, effect_below xs b p.1)))
orderly n i xs (When a b) l h = let p = and_parts (is_formula xs a) (is_effect xs b) h in and_from _ _ (lt-ltb a i (omega (arith, formula_below xs a p.0))) (lt-ltb b i (omega (arith, effect_below xs b p.1)))

pub lawful_ordered : (n : ℕ) (xs : List Node) → Lawful n xs → Ordered n xs
lawful_ordered n xs all i =
    ⊎_elim (λ (h : i < length xs). orderly n i (take i xs) (slice_index_or xs i False) (omega (arith, length-take i xs)) (all i h))
    (λ (h : length xs ≤ i). ap (ordered n i) (get_or_past xs i False h))
    (cases_lt i (length xs))
