use Rattle.std.proofs.Common.{◌∙◌}
use Rattle.logic.specs.Views.{partial}
use Rattle.mixedsets.proofs.Layers.{told_or}
use Rattle.mixedsets.proofs.layered.LayeredStateSet.ask.Goals as goal

pub returns : goal.returns
returns g c =
    let m = g.P.StateSet in
    c.unwrap_or.ensures ∙ told_or m.wide m.has m.answer m.meant c.args.self.now (partial c.args.cube.now) c.answer_at.result c.answer_at.ensures
