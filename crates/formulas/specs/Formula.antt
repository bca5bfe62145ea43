-- Formulas and effects over numbered variables, and what they mean.
use Rattle.std.specs.Prelude.{ℕ, Bool, true, false, cond, not, ◌&&◌, ◌||◌, ◌==◌}
use Rattle.logic.specs.declared.truth.Truth.{Truth}
use Rattle.logic.specs.declared.truth.Truth.TheVariants.{True, False}
use Rattle.logic.specs.Kleene.{not3, and3, or3}

pub data Formula : Type 0 where
  ff : Formula
  tr : Formula
  var : ℕ → Formula
  neg : Formula → Formula
  conj : Formula → Formula → Formula
  disj : Formula → Formula → Formula

-- the truth of a formula where each variable has a truth
abbrev pub kleene : (ℕ → Truth) → Formula → Truth
kleene ρ ff = False
kleene ρ tr = True
kleene ρ (var v) = ρ v
kleene ρ (neg φ) = not3 (kleene ρ φ)
kleene ρ (conj φ ψ) = and3 (kleene ρ φ) (kleene ρ ψ)
kleene ρ (disj φ ψ) = or3 (kleene ρ φ) (kleene ρ ψ)

-- whether a formula holds in a state
abbrev pub holds : (ℕ → Bool) → Formula → Bool
holds s ff = false
holds s tr = true
holds s (var v) = s v
holds s (neg φ) = not (holds s φ)
holds s (conj φ ψ) = holds s φ && holds s ψ
holds s (disj φ ψ) = holds s φ || holds s ψ

pub data Effect : Type 0 where
  skip : Effect
  put : ℕ → Bool → Effect
  both : Effect → Effect → Effect
  when : Formula → Effect → Effect

-- where the effect e gives the variable v the value true, and where it gives it false
abbrev pub sets : ℕ → Effect → Formula
sets v skip = ff
sets v (put u true) = cond (v == u) tr ff
sets v (put u false) = ff
sets v (both e f) = disj (sets v e) (sets v f)
sets v (when χ e) = conj χ (sets v e)

abbrev pub clears : ℕ → Effect → Formula
clears v skip = ff
clears v (put u true) = ff
clears v (put u false) = cond (v == u) tr ff
clears v (both e f) = disj (clears v e) (clears v f)
clears v (when χ e) = conj χ (clears v e)

-- the variable v after the effect e: set, or true before and not cleared
abbrev pub after : ℕ → Effect → Formula
after v e = disj (sets v e) (conj (var v) (neg (clears v e)))
