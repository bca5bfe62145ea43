-- How a change comes from those of an effect's parts.
use Rattle.std.proofs.Common.{◌≡◌, ℕ, List, get_or, sym, subst}
use Rattle.logic.specs.declared.truth.Truth.{Truth}
use Rattle.formulas.specs.declared.node.Node.{Node}
use Rattle.formulas.specs.declared.node.Node.TheVariants.{False, Both, When}
use Rattle.logic.specs.declared.change.Change.{Change}
use Rattle.logic.specs.Kleene.{and3, or3}
use Rattle.formulas.specs.Formula.{kleene, sets, clears}
use Rattle.logic.specs.Masks.{Alters}
use Rattle.formulas.specs.Changes.{Makes}
use Rattle.formulas.specs.Decode.{Ordered, formula_at, effect, effect_at}
use Rattle.formulas.proofs.Decoded.{effect_is}

module _ (n : ℕ) (nodes : List Node) (ord : Ordered n nodes) (i : ℕ) (ρ : ℕ → Truth) where
  -- the effect at a node that is known
  made : (N : Node) → N ≡ get_or nodes i False → (r : Change) → Makes ρ (effect (formula_at nodes) (effect_at nodes) N) r → Makes ρ (effect_at nodes i) r
  made N is r m = subst (λ e. Makes ρ e r) (sym (effect_is n nodes ord i N (sym is))) m

  -- two effects
  pub made_both : (a b : ℕ) → Both a b ≡ get_or nodes i False → (x y r : Change) → Makes ρ (effect_at nodes a) x → Makes ρ (effect_at nodes b) y
      → ((s k t l : ℕ → Truth) → Alters x s k → Alters y t l → Alters r (λ u. or3 (s u) (t u)) (λ u. or3 (k u) (l u))) → Makes ρ (effect_at nodes i) r
  made_both a b is x y r p q join = made (Both a b) is r (join _ _ _ _ p q)

  -- an effect under a condition whose truth is known
  pub made_when : (f b : ℕ) → When f b ≡ get_or nodes i False → (t : Truth) → t ≡ kleene ρ (formula_at nodes f) → (r : Change)
      → Alters r (λ v. and3 t (kleene ρ (sets v (effect_at nodes b)))) (λ v. and3 t (kleene ρ (clears v (effect_at nodes b)))) → Makes ρ (effect_at nodes i) r
  made_when f b is t so r m =
      made (When f b) is r (subst (λ x. Alters r (λ v. and3 x (kleene ρ (sets v (effect_at nodes b)))) (λ v. and3 x (kleene ρ (clears v (effect_at nodes b))))) so m)
