-- Sets of the three kinds, by the papers that they own: a paper that breaks a rule is the empty set.
use Rattle.std.specs.Prelude.{◌≡◌, ℕ, Bool, List, vec_items, refl}
use Rattle.records.specs.declared.PaperKind.TheVariants.{List as ListPaper, Diagram as DiagramPaper, Formula as FormulaPaper}
use Rattle.logic.specs.declared.truth.Truth.{Truth}
use Rattle.logic.specs.Partial.{PartialState}
use Rattle.sets.specs.Sets.{Laws}
use Rattle.mixedsets.specs.declared.paper.SetPaper.{SetPaper}
use Rattle.mixedsets.specs.declared.owned.OwnedSet.{OwnedSet}
use Rattle.mixedsets.specs.declared.owned.OwnedSet.TheVariants.{List as ListOf, Diagram as DiagramOf, Formula as FormulaOf}
use Rattle.setpapers.specs.Count.{rises}
use Rattle.setpapers.specs.Lists.{states, state_at, list_in, list_has, list_answer}
use Rattle.setpapers.specs.ListLaws.{list_laws}
use Rattle.setpapers.specs.Diagrams.{entries, entry_at, lawful, diagram_in, diagram_has, diagram_answer}
use Rattle.setpapers.specs.DiagramLaws.{diagram_laws}
use Rattle.setpapers.specs.FormulaSets.{lawful_at, formula_in, formula_has, formula_answer}
use Rattle.setpapers.specs.FormulaLaws.{formula_laws}
use Rattle.setpapers.specs.Keeping.{kept_pass}
use Rattle.setpapers.specs.Papers.{kept}

-- the bytes that a reader keeps of the paper
abbrev pub list_bytes : SetPaper → List ℕ
list_bytes p = kept (list_in p.width (vec_items p.paper))

-- those of a diagram
abbrev pub diagram_bytes : SetPaper → List ℕ
diagram_bytes p = kept (diagram_in p.width (vec_items p.paper))

-- those of a formula
abbrev pub formula_bytes : SetPaper → List ℕ
formula_bytes p = kept (formula_in p.width (vec_items p.paper))

-- the width of a set
abbrev pub owned_wide : OwnedSet → ℕ
owned_wide (ListOf p) = p.width
owned_wide (DiagramOf p) = p.width
owned_wide (FormulaOf p) = p.width

-- the states of a set
abbrev pub owned_has : OwnedSet → ℕ → Bool
owned_has (ListOf p) = list_has (list_bytes p)
owned_has (DiagramOf p) = diagram_has p.width (diagram_bytes p)
owned_has (FormulaOf p) = formula_has p.width (formula_bytes p)

-- the answer to any cube
abbrev pub owned_answer : OwnedSet → PartialState → Truth
owned_answer (ListOf p) = list_answer p.width (list_bytes p)
owned_answer (DiagramOf p) = diagram_answer p.width (diagram_bytes p)
owned_answer (FormulaOf p) = formula_answer p.width (formula_bytes p)

-- each is a set
pub owned_laws : (s : OwnedSet) → Laws (owned_wide s) (owned_has s) (owned_answer s)
owned_laws (ListOf p) = list_laws p.width (list_bytes p) (kept_pass ListPaper 0 (λ bs. rises p.width (state_at bs)) states refl (vec_items p.paper))
owned_laws (DiagramOf p) =
    diagram_laws p.width (entry_at (diagram_bytes p)) (entries (diagram_bytes p)) (kept_pass DiagramPaper 1 (λ bs. lawful p.width (entry_at bs)) entries refl (vec_items p.paper))
owned_laws (FormulaOf p) = formula_laws p.width (formula_bytes p) (kept_pass FormulaPaper 1 (lawful_at p.width) entries refl (vec_items p.paper))

-- the paper and the width of a set
abbrev pub Lies : ℕ → List ℕ → SetPaper → Type 0
Lies w bs p = (p.width ≡ w) × (vec_items p.paper ≡ bs)

-- the list that lies in this paper
abbrev pub OwnsList : ℕ → List ℕ → OwnedSet → Type 0
OwnsList w bs (ListOf p) = Lies w bs p
OwnsList w bs (DiagramOf p) = ⊥
OwnsList w bs (FormulaOf p) = ⊥

-- a diagram
abbrev pub OwnsDiagram : ℕ → List ℕ → OwnedSet → Type 0
OwnsDiagram w bs (ListOf p) = ⊥
OwnsDiagram w bs (DiagramOf p) = Lies w bs p
OwnsDiagram w bs (FormulaOf p) = ⊥

-- a formula
abbrev pub OwnsFormula : ℕ → List ℕ → OwnedSet → Type 0
OwnsFormula w bs (ListOf p) = ⊥
OwnsFormula w bs (DiagramOf p) = ⊥
OwnsFormula w bs (FormulaOf p) = Lies w bs p
