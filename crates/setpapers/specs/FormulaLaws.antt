-- A formula keeps the laws of a set.
use Rattle.std.specs.Prelude.{◌≡◌, ℕ, zero, suc, ◌<◌, ◌≤◌, Bool, true, List, Some, None, Option, ◌≢◌, refl}
use Rattle.std.proofs.Common.{sym, ap, ◌∙◌, ⊎_elim, arith}
use Rattle.std.proofs.lemmas.List.{get_or_past}
use Rattle.std.proofs.lemmas.Bool.{and_parts, cases_lt}
use Rattle.logic.specs.declared.truth.Truth.{Truth}
use Rattle.logic.specs.declared.truth.Truth.TheVariants.{True, False, Open}
use Rattle.logic.specs.Contained.{given_known}
use Rattle.logic.specs.Kleene.{given, sure}
use Rattle.logic.specs.States.{Settled}
use Rattle.formulas.specs.declared.node.Node.{Node}
use Rattle.formulas.specs.declared.node.Node.TheVariants.{False as no_node}
use Rattle.formulas.specs.Decode.{ordered, Ordered}
use Rattle.formulas.specs.Formula.{Formula, kleene, holds}
use Rattle.formulas.specs.Sorts.{formula_node}
use Rattle.formulas.specs.Sound.{kleene_sound}
use Rattle.formulas.specs.Within.{Within, kleene_total, formula_within}
use Rattle.sets.specs.Sets.{Laws}
use Rattle.sets.specs.Told.{told_laws}
use Rattle.setpapers.specs.Rows.{all, all_at}
use Rattle.setpapers.specs.Diagrams.{entries}
use Rattle.setpapers.specs.Tabled.{length_table, get_or_table}
use Rattle.setpapers.specs.FormulaSets.{decoded_at, node_or, node_at, nodes_in, root_to, formula_of, formula_has, formula_answer, named_by, fits, lawful_node, lawful_at}

-- ---- where no variable is open, no formula is

-- a truth that is not open
given_sure : (τ : Truth) → (τ ≢ Open) → τ ≡ given (sure τ)
given_sure True h = refl
given_sure False h = refl
given_sure Open h = absurd (h refl)

-- where no variable is open, the formula has a truth
formula_settles : (w : ℕ) (ρ : ℕ → Truth) → Settled w ρ → (φ : Formula) → Within w φ → kleene ρ φ ≢ Open
formula_settles w ρ h φ within e =
    let s : ℕ → Bool = λ v. sure (ρ v) in
    let total : kleene ρ φ ≡ given (holds s φ) = kleene_total w ρ s (λ v k. given_sure (ρ v) (h v k)) φ within in
    given_known (holds s φ) (sym total ∙ e)

-- ---- lawful nodes are in order

-- a lawful node is in order
node_ordered : (w i : ℕ) (ns : List ℕ) (o : Option Node) → lawful_node w i ns o ≡ true → ordered w i (node_or o) ≡ true
node_ordered w i ns (Some N) h = (and_parts (formula_node N) (ordered w i N) (and_parts (fits w i N) _ h).0).1
node_ordered w i ns None h = refl

module _ (w : ℕ) (bs : List ℕ) (fine : all (lawful_at w bs) (entries bs) ≡ true) where
  pub nodes_ordered : Ordered w (nodes_in bs)
  nodes_ordered i =
      ⊎_elim
      (λ (l : i < entries bs).
      ap (ordered w i) (get_or_table (node_at bs) (entries bs) i no_node l)
      ∙ node_ordered w i (named_by (node_at bs) i) (decoded_at bs i) (all_at (lawful_at w bs) (entries bs) fine i l))
      (λ (l : entries bs ≤ i). ap (ordered w i) (get_or_past (nodes_in bs) i no_node (omega (arith, length_table (node_at bs) (entries bs)))))
      (cases_lt i (entries bs))

  root_within : (n : ℕ) → Within w (root_to (nodes_in bs) n)
  root_within zero = tt
  root_within (suc n) = formula_within w (nodes_in bs) nodes_ordered n

  pub formula_laws : Laws w (formula_has w bs) (formula_answer w bs)
  formula_laws =
      told_laws w (λ s. holds s (formula_of bs)) (λ ρ. kleene ρ (formula_of bs)) (record {
        says = λ ρ s h. kleene_sound ρ s h (formula_of bs);
        settles = λ ρ h. formula_settles w ρ h (formula_of bs) (root_within (entries bs));
      })
