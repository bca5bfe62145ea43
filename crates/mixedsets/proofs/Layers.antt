-- The answer of two sets joined, found from those of both.
use Rattle.std.proofs.Common.{◌≡◌, ℕ, Bool, true, false, cond, eqb, Some, None, Option, sym, refl, ap, ap₂, ◌∙◌, subst}
use Rattle.std.proofs.lemmas.Bool.{eq-eqb, both_ways}
use Rattle.std.specs.Prelude.{unwrap_or}
use Rattle.logic.specs.declared.truth.Truth.{Truth}
use Rattle.logic.specs.declared.truth.Truth.TheVariants.{False}
use Rattle.logic.specs.Kleene.{and3, or3}
use Rattle.logic.specs.Partial.{PartialState}
use Rattle.sets.specs.Sets.{Laws, at_width}
use Rattle.mixedsets.specs.declared.layered.Connective.{Connective}
use Rattle.mixedsets.specs.declared.layered.Connective.TheVariants.{Meeting, Joining}
use Rattle.mixedsets.specs.declared.layered.Layered.{Layered}
use Rattle.mixedsets.specs.LayeredSets.{joined, told_at, layered_wide, layered_answer, layered_laws, pair_answer}

-- an option that has this
abbrev has_it : Truth → Option Truth → Type 0
has_it a None = ⊥
has_it a (Some b) = a ≡ b

module _ (w : ℕ) (c : PartialState) (x a : Truth) where
  -- what is told is the answer to a cube of the width
  told_some : Some a ≡ told_at w c x → (eqb c.width w ≡ true) × (a ≡ x)
  told_some e = go (eqb c.width w) refl (subst (has_it a) e refl)
    where
      go : (b : Bool) → eqb c.width w ≡ b → has_it a (cond b (Some x) None) → (eqb c.width w ≡ true) × (a ≡ x)
      go true is h = (is, h)
      go false is h = absurd h

module _ {P : Type 0} (wide : P → ℕ) (has : P → ℕ → Bool) (answer : P → PartialState → Truth) (laws : (s : P) → Laws (wide s) (has s) (answer s)) where
  -- where none is told, a set's answer is that no state is in
  pub told_or : (s : Layered P) (c : PartialState) (o : Option Truth) → o ≡ told_at (layered_wide wide s) c (layered_answer wide answer s c) → unwrap_or o False ≡ layered_answer wide answer s c
  told_or s c o e = ap (λ p. unwrap_or p False) e ∙ go (eqb c.width (layered_wide wide s)) refl
    where
      go : (b : Bool) → eqb c.width (layered_wide wide s) ≡ b → unwrap_or (cond b (Some (layered_answer wide answer s c)) None) False ≡ layered_answer wide answer s c
      go true is = refl
      go false is = sym ((layered_laws laws s).other c (λ same. both_ways _ is (eq-eqb c.width (layered_wide wide s) same)))

  -- what is told of two sets joined
  pub told_pair : (k : Connective) (first second : Layered P) (c : PartialState) (a : Truth) (o : Option Truth) (r : Truth)
      → Some a ≡ told_at (layered_wide wide first) c (layered_answer wide answer first c) → o ≡ told_at (layered_wide wide second) c (layered_answer wide answer second c) → r ≡ joined k a (unwrap_or o False)
      → Some r ≡ told_at (layered_wide wide first) c (pair_answer k (layered_wide wide first) (layered_answer wide answer first) (layered_answer wide answer second) c)
  told_pair k first second c a o r one two is = go k is
    where
      v : ℕ
      v = layered_wide wide first

      told : (eqb c.width v ≡ true) × (a ≡ layered_answer wide answer first c)
      told = told_some v c (layered_answer wide answer first c) a one

      other : unwrap_or o False ≡ layered_answer wide answer second c
      other = told_or second c o two

      whole : (x : Truth) → Some x ≡ told_at v c (at_width v c x)
      whole x = sym (ap (λ b. cond b (Some (cond b x False)) None) told.0)

      go : (j : Connective) → r ≡ joined j a (unwrap_or o False) → Some r ≡ told_at v c (pair_answer j v (layered_answer wide answer first) (layered_answer wide answer second) c)
      go Meeting e = ap Some (e ∙ ap₂ and3 told.1 other) ∙ whole (and3 (layered_answer wide answer first c) (layered_answer wide answer second c))
      go Joining e = ap Some (e ∙ ap₂ or3 told.1 other) ∙ whole (or3 (layered_answer wide answer first c) (layered_answer wide answer second c))
