use Rattle.std.proofs.Common.{◌≡◌, length, arith}
use Rattle.logic.specs.Partial.{truth}
use Rattle.logic.specs.Views.{partial}
use Rattle.setpapers.specs.Diagrams.{entries}
use Rattle.setpapers.specs.Tabled.{bytes_at}
use Rattle.setpapers.proofs.Firsts.{row_count}
use Rattle.setpapers.proofs.Rooted.{at_root, at_none}
use Rattle.setpapers.proofs.formula.FormulaKindSetKind.answer.Goals as goal

pub returns-then-count-eq0 : goal.returns-then-count-eq0
returns-then-count-eq0 c =
    let bs = c.args.set.now.body.now in
    at_none bs (truth (partial c.args.cube.now)) (omega (arith, c.if-count-eq0.true, row_count (bytes_at 5 bs) (entries bs) c.entries-count.result.now c.entries-count.ensures))

pub returns : goal.returns
returns c =
    let bs = c.args.set.now.body.now in
    let n : length c.entries-count.result.now ≡ entries bs = row_count (bytes_at 5 bs) (entries bs) c.entries-count.result.now c.entries-count.ensures in
    at_root bs (truth (partial c.args.cube.now)) (length c.entries-count.result.now) n c.if-count-eq0.false c.value.result c.value.ensures.truth
