-- The layers keep the laws of their parts.
use Rattle.std.specs.Prelude.{◌≡◌, ℕ, ◌^◌, ◌<◌, Bool, true, not, ◌&&◌, ◌||◌, ◌⊎◌, ◌==◌, ◌≢◌, refl}
use Rattle.std.proofs.Common.{sym, subst, ◌∙◌, inl, ⊎_elim}
use Rattle.std.proofs.lemmas.Bool.{and_parts, and_left, or_cases, lt-ltb, ltb-true, eqb-true, eq-eqb, ne_eqb, cond-true, cond-false, cases_eq}
use Rattle.logic.specs.declared.truth.Truth.{Truth}
use Rattle.logic.specs.declared.truth.Truth.TheVariants.{True as Inside, False as Outside, Open}
use Rattle.logic.specs.Allowed.{allows_not, allows_and, allows_or, settles_not, settles_and, settles_or}
use Rattle.logic.specs.Kleene.{not3, and3, or3}
use Rattle.logic.specs.Partial.{PartialState, Fine, In}
use Rattle.logic.specs.States.{Allows}
use Rattle.sets.specs.Sets.{Laws, Claims, Total, at_width, not_has, joined_have, both_have, either_has, not_answer, joined_answer, both_answer, either_answer}

-- what a set of width w has to show, if it answers a to the cubes of that width
pub laws_at : (w : ℕ) (has : ℕ → Bool) (a : PartialState → Truth) → ((x : ℕ) → has x ≡ true → x < 2 ^ w) → ((c : PartialState) → Fine c → c.width ≡ w → Claims (a c) has c) → Laws w has (λ c. at_width w c (a c))
laws_at w has a within holds = record {
  within = within;
  holds = λ c f e. subst (λ r. Claims r has c) (sym (cond-true (c.width == w) (a c) Outside (eq-eqb c.width w e))) (holds c f e);
  other = λ c n. cond-false (c.width == w) (a c) Outside (ne_eqb c.width w n);
}

module _ (has : ℕ → Bool) (c : PartialState) where
  -- what an answer claims of a cube: it allows whether each state is in the set, and is not open of a total cube
  pub claims_from : (a : Truth) → ((x : ℕ) → In c x → Allows a (has x)) → (Total c → a ≢ Open) → Claims a has c
  claims_from Inside says settled = says
  claims_from Outside says settled = says
  claims_from Open says settled = λ t. settled t refl

  claims_allow : (a : Truth) → Claims a has c → (x : ℕ) → In c x → Allows a (has x)
  claims_allow Inside h = h
  claims_allow Outside h = h
  claims_allow Open h = λ x i. tt

  claims_settled : (a : Truth) → Claims a has c → Total c → a ≢ Open
  claims_settled a h t e = subst (λ r. Claims r has c) e h t

-- what the complement claims
not_claims : (w : ℕ) (has : ℕ → Bool) (c : PartialState) → c.width ≡ w → (a : Truth) → Claims a has c → Claims (not3 a) (not_has w has) c
not_claims w has c e a h =
    claims_from (not_has w has) c (not3 a)
    (λ x i. subst (λ b. Allows (not3 a) (b && not (has x))) (sym (lt-ltb x (2 ^ w) (subst (λ v. x < 2 ^ v) e i.below))) (allows_not a (has x) (claims_allow has c a h x i)))
    (λ t. settles_not a (claims_settled has c a h t))

-- a complement is a set
pub complement_laws : {w : ℕ} {has : ℕ → Bool} {a : PartialState → Truth} → Laws w has a → Laws w (not_has w has) (not_answer w a)
complement_laws {w} {has} {a} l =
    laws_at w (not_has w has) (λ c. not3 (a c)) (λ x h. ltb-true x (2 ^ w) (and_parts _ _ h).0) (λ c f e. not_claims w has c e (a c) (l.holds c f e))

-- a set of width w, seen at the width v
seen : {w : ℕ} {has : ℕ → Bool} {a : PartialState → Truth} → Laws w has a → (v : ℕ) (c : PartialState) → Fine c → c.width ≡ v → Claims (a c) (λ x. (v == w) && has x) c
seen {w} {has} {a} l v c f e =
    ⊎_elim
    (λ (s : v ≡ w). subst (λ b. Claims (a c) (λ x. b && has x) c) (sym (eq-eqb v w s)) (l.holds c f (e ∙ s)))
    (λ (n : v ≡ w → ⊥). subst (λ r. Claims r (λ x. (v == w) && has x) c) (sym (l.other c (λ s. n (sym e ∙ s)))) (λ x i. and_left (v == w) (has x) (ne_eqb v w n)))
    (cases_eq v w)

-- what joins whether each of two parts has a state, and their answers: they fit together
pub record Joins (state : Bool → Bool → Bool) (answer : Truth → Truth → Truth) : Type 0 where
  pub says : (a b : Truth) (x y : Bool) → Allows a x → Allows b y → Allows (answer a b) (state x y)
  pub settles : (a b : Truth) → (a ≢ Open) → (b ≢ Open) → answer a b ≢ Open
  pub some : (x y : Bool) → state x y ≡ true → (x ≡ true) ⊎ (y ≡ true)

-- the layer that joins two sets is a set
pub joined_laws : {state : Bool → Bool → Bool} {answer : Truth → Truth → Truth} {v w : ℕ} {f g : ℕ → Bool} {a b : PartialState → Truth}
    → Joins state answer → Laws v f a → Laws w g b → Laws v (joined_have state v f w g) (joined_answer answer v a b)
joined_laws {state} {answer} {v} {w} {f} {g} {a} {b} joins k l =
    let has = joined_have state v f w g in
    laws_at v has (λ c. answer (a c) (b c))
    (λ x h. ⊎_elim (k.within x) (λ t. let p = and_parts (v == w) (g x) t in subst (λ u. x < 2 ^ u) (sym (eqb-true v w p.0)) (l.within x p.1)) (joins.some _ _ h))
    (λ c fine e.
    let p = k.holds c fine e in
    let q = seen l v c fine e in
    claims_from has c (answer (a c) (b c))
    (λ x i. joins.says (a c) (b c) (f x) (v == w && g x) (claims_allow f c (a c) p x i) (claims_allow (λ x. v == w && g x) c (b c) q x i))
    (λ t. joins.settles (a c) (b c) (claims_settled f c (a c) p t) (claims_settled (λ x. v == w && g x) c (b c) q t)))

pub and_joins : Joins (λ x y. x && y) and3
and_joins = record { says = allows_and; settles = settles_and; some = λ x y h. inl (and_parts x y h).0 }

pub or_joins : Joins (λ x y. x || y) or3
or_joins = record { says = allows_or; settles = settles_or; some = or_cases }

module _ {v w : ℕ} {f g : ℕ → Bool} {a b : PartialState → Truth} (k : Laws v f a) (l : Laws w g b) where
  pub meeting_laws : Laws v (both_have v f w g) (both_answer v a b)
  meeting_laws = joined_laws and_joins k l

  pub joining_laws : Laws v (either_has v f w g) (either_answer v a b)
  joining_laws = joined_laws or_joins k l
