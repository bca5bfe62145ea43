-- What the reader of each kind answers by is what the kind's own words say.
use Rattle.std.specs.Prelude.{◌≡◌, ℕ, List, refl}
use Rattle.records.specs.declared.PaperKind.TheVariants.{List as ListPaper, Diagram as DiagramPaper, Formula as FormulaPaper}
use Rattle.setpapers.specs.Count.{rises}
use Rattle.setpapers.specs.Diagrams.{entries, entry_at, lawful, diagram_in}
use Rattle.setpapers.specs.FormulaSets.{lawful_at, formula_in}
use Rattle.setpapers.specs.Lists.{states, state_at, list_in}
use Rattle.setpapers.specs.Papers.{entries_in}

pub list_reads : (w : ℕ) (paper : List ℕ) → entries_in ListPaper 0 (λ v bs. rises v (state_at bs)) states w paper ≡ list_in w paper
list_reads w paper = refl

pub diagram_reads : (w : ℕ) (paper : List ℕ) → entries_in DiagramPaper 1 (λ v bs. lawful v (entry_at bs)) entries w paper ≡ diagram_in w paper
diagram_reads w paper = refl

pub formula_reads : (w : ℕ) (paper : List ℕ) → entries_in FormulaPaper 1 lawful_at entries w paper ≡ formula_in w paper
formula_reads w paper = refl
