-- Sets that answer by the truths of a cube's variables.
use Rattle.std.specs.Prelude.{◌≡◌, ℕ, ◌-◌, ◌^◌, ◌<◌, Bool, ◌&&◌, ◌≢◌, nat_lt}
use Rattle.std.proofs.Common.{subst, sym, ap, ◌∙◌}
use Rattle.std.proofs.lemmas.Bool.{and_parts, lt-ltb, ltb-true}
use Rattle.logic.specs.declared.truth.Truth.{Truth}
use Rattle.logic.specs.Bit.{bit}
use Rattle.logic.specs.Partial.{PartialState, In, cube_of, truth}
use Rattle.logic.specs.States.{Has, Settled, Allows}
use Rattle.logic.specs.Contained.{has_from, settled_single}
use Rattle.logic.specs.declared.truth.Truth.TheVariants.{Open}
use Rattle.sets.specs.Layers.{laws_at, claims_from}
use Rattle.sets.specs.Sets.{Laws, Claims, Total, at_width}

-- the states of width w whose variables pass a test
abbrev pub states_where : ℕ → ((ℕ → Bool) → Bool) → ℕ → Bool
states_where w p x = nat_lt x (2 ^ w) && p (λ v. bit v x)

-- the answer to a cube of the width w, by the truths of its variables
abbrev pub told : ℕ → ((ℕ → Truth) → Truth) → PartialState → Truth
told w a c = at_width w c (a (truth c))

-- answers that say only what holds of each state of a cube, and are never open where no variable is
pub record Sound (w : ℕ) (p : (ℕ → Bool) → Bool) (a : (ℕ → Truth) → Truth) : Type 0 where
  pub says : (ρ : ℕ → Truth) (s : ℕ → Bool) → Has ρ s → Allows (a ρ) (p s)
  pub settles : (ρ : ℕ → Truth) → Settled w ρ → a ρ ≢ Open

-- in a total cube no variable is open
total_settled : (w : ℕ) (c : PartialState) → c.width ≡ w → Total c → Settled w (truth c)
total_settled w c e t =
    let full : c.known ≡ 2 ^ w - 1 = t ∙ ap (λ n. 2 ^ n - 1) e in
    subst (λ k. Settled w (truth (cube_of w k c.value))) (sym full) (settled_single w c.value)

module _ (w : ℕ) (p : (ℕ → Bool) → Bool) where
  claimed : (c : PartialState) → c.width ≡ w → (r : Truth) → ((x : ℕ) → In c x → Allows r (p (λ v. bit v x))) → (Total c → r ≢ Open) → Claims r (states_where w p) c
  claimed c e r says =
      claims_from (states_where w p) c r
      (λ x i. subst (λ b. Allows r (b && p (λ v. bit v x))) (sym (lt-ltb x (2 ^ w) (subst (λ n. x < 2 ^ n) e i.below))) (says x i))

  pub told_laws : (a : (ℕ → Truth) → Truth) → Sound w p a → Laws w (states_where w p) (told w a)
  told_laws a sound =
      laws_at w (states_where w p) (λ c. a (truth c)) (λ x h. ltb-true x (2 ^ w) (and_parts _ _ h).0)
      (λ c fine e.
      claimed c e (a (truth c))
      (λ x i. sound.says (truth c) (λ v. bit v x) (has_from c x i.agrees))
      (λ t. sound.settles (truth c) (total_settled w c e t)))
