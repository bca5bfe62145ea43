-- What is true in a cube holds in each of its states.
use Rattle.std.specs.Prelude.{ℕ, Bool, refl}
use Rattle.logic.specs.declared.truth.Truth.{Truth}
use Rattle.logic.specs.Allowed.{allows_not, allows_and, allows_or}
use Rattle.logic.specs.States.{Allows, Has}
use Rattle.formulas.specs.Formula.{Formula, ff, tr, var, neg, conj, disj, kleene, holds}

pub kleene_sound : (ρ : ℕ → Truth) (s : ℕ → Bool) → Has ρ s → (φ : Formula) → Allows (kleene ρ φ) (holds s φ)
kleene_sound ρ s h ff = refl
kleene_sound ρ s h tr = refl
kleene_sound ρ s h (var v) = h v
kleene_sound ρ s h (neg φ) = allows_not (kleene ρ φ) (holds s φ) (kleene_sound ρ s h φ)
kleene_sound ρ s h (conj φ ψ) = allows_and (kleene ρ φ) (kleene ρ ψ) (holds s φ) (holds s ψ) (kleene_sound ρ s h φ) (kleene_sound ρ s h ψ)
kleene_sound ρ s h (disj φ ψ) = allows_or (kleene ρ φ) (kleene ρ ψ) (holds s φ) (holds s ψ) (kleene_sound ρ s h φ) (kleene_sound ρ s h ψ)
