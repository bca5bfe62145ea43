-- The set of one state, which says nothing of a cube that has free variables.
use Rattle.std.specs.Prelude.{◌≡◌, ℕ, zero, suc, ◌-◌, ◌/◌, ◌^◌, ◌<◌, Bool, cond, ◌&&◌, ◌==◌, bit_and, count_ones, nat_lt}
use Rattle.std.proofs.Common.{sym, ap, subst, ◌∙◌, ⊎_elim, pow-suc, mod-eq_of_lt, arith}
use Rattle.std.proofs.lemmas.Nat.{and_mask, ones-le}
use Rattle.std.specs.Int.Count.{ones_step, ones-ones}
use Rattle.std.proofs.lemmas.Bool.{and_parts, and_from, and_left, ltb-true, lt-ltb, eq-eqb, ne_eqb, cases_eq, cond-true, cond-false}
use Rattle.logic.specs.Partial.{PartialState, Fine, In, free_count}
use Rattle.logic.specs.declared.truth.Truth.{Truth}
use Rattle.logic.specs.declared.truth.Truth.TheVariants.{True as Inside, False as Outside, Open}
use Rattle.sets.specs.Layers.{laws_at}
use Rattle.sets.specs.Sets.{Laws, Claims, Total, at_width}

-- s, if it is a state of width w
abbrev pub point_has : ℕ → ℕ → ℕ → Bool
point_has w s x = x == s && nat_lt x (2 ^ w)

-- the answer to a cube of the set's width
abbrev pub point_says : ℕ → PartialState → Truth
point_says s c = cond (free_count c == 0) (cond (c.value == s) Inside Outside) Open

-- the answer to any cube
abbrev pub point_answer : ℕ → ℕ → PartialState → Truth
point_answer w s c = at_width w c (point_says s c)

-- a word of w ones has no other bit
all_known : (w k : ℕ) → k < 2 ^ w → w - count_ones k ≡ 0 → k ≡ 2 ^ w - 1
all_known zero k h f = omega arith
all_known (suc w) k h f =
    let p = pow-suc 2 w in
    let low : k / 2 < 2 ^ w = omega arith in
    let step = ones_step k in
    let few = ones-le w (k / 2) low in
    let rest = all_known w (k / 2) low (omega arith) in
    omega arith

-- a cube with no free variable has one state
only_state : (c : PartialState) → Fine c → free_count c ≡ 0 → (x : ℕ) → In c x → x ≡ c.value
only_state c fine f x i =
    let full = all_known c.width c.known fine.inside f in
    sym (mod-eq_of_lt i.below) ∙ sym (and_mask x c.width) ∙ ap (bit_and x) (sym full) ∙ i.agrees

-- and a total cube has no free variable
pub total_free : (c : PartialState) → Total c → free_count c ≡ 0
total_free c t = omega (arith, ap count_ones t, ones-ones c.width)

-- what that answer claims holds
point_claims : (w s : ℕ) (c : PartialState) → Fine c → c.width ≡ w → Claims (point_says s c) (point_has w s) c
point_claims w s c fine e =
    let P : Truth → Type 0 = λ a. Claims a (point_has w s) c in
    ⊎_elim
    (λ (f : free_count c ≡ 0).
    subst P (sym (cond-true (free_count c == 0) (cond (c.value == s) Inside Outside) Open (eq-eqb _ _ f)))
    (⊎_elim
    (λ (is : c.value ≡ s). subst P (sym (cond-true (c.value == s) Inside Outside (eq-eqb _ _ is)))
    (λ x i. and_from _ _ (eq-eqb x s (only_state c fine f x i ∙ is)) (lt-ltb x (2 ^ w) (subst (λ n. x < 2 ^ n) e i.below))))
    (λ (no : c.value ≡ s → ⊥). subst P (sym (cond-false (c.value == s) Inside Outside (ne_eqb _ _ no)))
    (λ x i. and_left _ _ (ne_eqb x s (λ is. no (sym (only_state c fine f x i) ∙ is)))))
    (cases_eq c.value s)))
    (λ (f : free_count c ≡ 0 → ⊥).
    subst P (sym (cond-false (free_count c == 0) (cond (c.value == s) Inside Outside) Open (ne_eqb _ _ f))) (λ t. f (total_free c t)))
    (cases_eq (free_count c) 0)

-- one state is a set
pub point_laws : (w s : ℕ) → Laws w (point_has w s) (point_answer w s)
point_laws w s = laws_at w (point_has w s) (point_says s) (λ x h. ltb-true x (2 ^ w) (and_parts _ _ h).1) (point_claims w s)
