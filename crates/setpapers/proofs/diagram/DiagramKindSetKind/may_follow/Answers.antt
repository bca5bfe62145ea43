use Rattle.std.proofs.Common.{◌∙◌}
use Rattle.setpapers.proofs.Entered.{entry_tested}
use Rattle.setpapers.proofs.diagram.DiagramKindSetKind.may_follow.Goals as goal

pub returns : goal.returns
returns c = λ bs i f seen. record {
  tested = c.is_lawful.ensures ∙ entry_tested bs i c.args.before.now c.args.entry.now f c.args.width c.from.result c.from.ensures;
  remembered = λ yes. tt;
}
