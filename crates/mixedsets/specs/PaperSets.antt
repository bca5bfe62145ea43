-- Sets of the three kinds, over their papers.
use Rattle.std.specs.Prelude.{◌≡◌, ℕ, Bool, List, Ok}
use Rattle.logic.specs.declared.truth.Truth.{Truth}
use Rattle.logic.specs.Partial.{PartialState}
use Rattle.sets.specs.Sets.{Laws}
use Rattle.mixedsets.specs.declared.paper.PaperSet.{PaperSet}
use Rattle.mixedsets.specs.declared.paper.PaperSet.TheVariants.{List as ListOf, Diagram as DiagramOf, Formula as FormulaOf}
use Rattle.setpapers.specs.Lists.{list_in, list_has, list_answer}
use Rattle.setpapers.specs.ListLaws.{list_laws}
use Rattle.setpapers.specs.Diagrams.{entries, entry_at, diagram_in, diagram_has, diagram_answer}
use Rattle.setpapers.specs.DiagramLaws.{diagram_laws}
use Rattle.setpapers.specs.FormulaSets.{formula_in, formula_has, formula_answer}
use Rattle.setpapers.specs.FormulaLaws.{formula_laws}

-- the width of a set
abbrev pub paper_wide : PaperSet → ℕ
paper_wide (ListOf s) = s.width
paper_wide (DiagramOf s) = s.width
paper_wide (FormulaOf s) = s.width

-- the states of a set
abbrev pub paper_has : PaperSet → ℕ → Bool
paper_has (ListOf s) = list_has s.body.now
paper_has (DiagramOf s) = diagram_has s.width s.body.now
paper_has (FormulaOf s) = formula_has s.width s.body.now

-- the answer to any cube
abbrev pub paper_answer : PaperSet → PartialState → Truth
paper_answer (ListOf s) = list_answer s.width s.body.now
paper_answer (DiagramOf s) = diagram_answer s.width s.body.now
paper_answer (FormulaOf s) = formula_answer s.width s.body.now

-- each is a set
pub paper_laws : (s : PaperSet) → Laws (paper_wide s) (paper_has s) (paper_answer s)
paper_laws (ListOf s) = list_laws s.width s.body.now s.fine
paper_laws (DiagramOf s) = diagram_laws s.width (entry_at s.body.now) (entries s.body.now) s.fine
paper_laws (FormulaOf s) = formula_laws s.width s.body.now s.fine

-- the list of this width that lies in this paper
abbrev pub IsList : ℕ → List ℕ → PaperSet → Type 0
IsList w bs (ListOf s) = (s.width ≡ w) × (Ok s.body.now ≡ list_in w bs)
IsList w bs (DiagramOf s) = ⊥
IsList w bs (FormulaOf s) = ⊥

-- a diagram
abbrev pub IsDiagram : ℕ → List ℕ → PaperSet → Type 0
IsDiagram w bs (ListOf s) = ⊥
IsDiagram w bs (DiagramOf s) = (s.width ≡ w) × (Ok s.body.now ≡ diagram_in w bs)
IsDiagram w bs (FormulaOf s) = ⊥

-- a formula
abbrev pub IsFormula : ℕ → List ℕ → PaperSet → Type 0
IsFormula w bs (ListOf s) = ⊥
IsFormula w bs (DiagramOf s) = ⊥
IsFormula w bs (FormulaOf s) = (s.width ≡ w) × (Ok s.body.now ≡ formula_in w bs)
