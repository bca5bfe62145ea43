use Rattle.std.proofs.Common.{sym, subst}
use Rattle.formulas.specs.Marks.{Marks}
use Rattle.setpapers.specs.FormulaSets.{node_at}
use Rattle.setpapers.specs.Naming.{named_none}
use Rattle.setpapers.proofs.formula.FormulaKindSetKind.nothing_seen.Goals as goal

pub returns : goal.returns
returns c = λ bs. subst (Marks c.none.result.marks) (sym (named_none (node_at bs))) c.none.ensures
