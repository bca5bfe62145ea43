use Rattle.logic.specs.Partial.{truth}
use Rattle.logic.specs.Views.{partial}
use Rattle.formulas.proofs.Made.{made_both, made_when}
use Rattle.formulas.proofs.effects.+change_at.Goals as goal

pub returns-in-Both : goal.returns-in-Both
returns-in-Both g t c =
    made_both _ _ (g.N.NodeTable.ordered c.args.nodes.now) c.args.at (truth (partial c.args.cube.now)) c.in-Both.a c.in-Both.b c.in-Both.ensures
    c.change_at.result c.change_at-in-Both.result c.or.result c.change_at.ensures c.change_at-in-Both.ensures c.or.ensures

pub returns-in-True : goal.returns-in-True
returns-in-True g t c =
    made_when _ _ (g.N.NodeTable.ordered c.args.nodes.now) c.args.at (truth (partial c.args.cube.now)) c.in-When.f c.in-When.e c.in-When.ensures
    _ c.in-True.ensures.truth c.change_at-in-True.result c.change_at-in-True.ensures

pub returns-in-Open : goal.returns-in-Open
returns-in-Open g t c =
    made_when _ _ (g.N.NodeTable.ordered c.args.nodes.now) c.args.at (truth (partial c.args.cube.now)) c.in-When.f c.in-When.e c.in-When.ensures
    _ c.in-Open.ensures.truth c.perhaps.result (c.perhaps.ensures _ _ c.change_at-in-Open.ensures)
