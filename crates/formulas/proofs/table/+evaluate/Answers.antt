use Rattle.std.proofs.Common.{sym, ap, ◌∙◌, ap₂}
use Rattle.logic.specs.Kleene.{not3, and3, or3}
use Rattle.formulas.proofs.Decoded.{kleene_is}
use Rattle.formulas.proofs.table.+evaluate.Goals as goal

pub returns-in-Not : goal.returns-in-Not
returns-in-Not g t c =
    c.not.ensures ∙ ap not3 c.evaluate.ensures
    ∙ sym (kleene_is _ _ (g.N.NodeTable.ordered c.args.nodes.now) _ c.args.at _ (sym c.in-Not.ensures))

pub returns-in-And : goal.returns-in-And
returns-in-And g t c =
    c.and.ensures ∙ ap₂ and3 c.evaluate-in-And.ensures c.evaluate-in-And-2.ensures
    ∙ sym (kleene_is _ _ (g.N.NodeTable.ordered c.args.nodes.now) _ c.args.at _ (sym c.in-And.ensures))

pub returns-in-Or : goal.returns-in-Or
returns-in-Or g t c =
    c.or.ensures ∙ ap₂ or3 c.evaluate-in-Or.ensures c.evaluate-in-Or-2.ensures
    ∙ sym (kleene_is _ _ (g.N.NodeTable.ordered c.args.nodes.now) _ c.args.at _ (sym c.in-Or.ensures))
