use Rattle.std.proofs.Common.{◌+◌, sym}
use Rattle.formulas.specs.Marks.{Marks}
use Rattle.setpapers.specs.FormulaSets.{node_at, named_by}
use Rattle.setpapers.proofs.Claimed.{node_claimed, node_refused, node_missing}
use Rattle.setpapers.proofs.formula.FormulaKindSetKind.may_follow.Goals as goal

pub returns-then-may_stand : goal.returns-then-may_stand
returns-then-may_stand c =
    λ bs i f marked.
    node_claimed bs i c.args.before.now c.args.entry.now f c.args.width c.in-Some.node c.claim_children.new.self.marks c.claim_children.result (sym c.in-Some.ensures) (sym c.if-may_stand.ensures)
    (λ below. c.claim_children.ensures.named (named_by (node_at bs) i) below marked)

pub returns-else-may_stand : goal.returns-else-may_stand
returns-else-may_stand c =
    λ bs i f marked.
    node_refused bs i c.args.before.now c.args.entry.now f c.args.width c.in-Some.node c.may_stand.result (sym c.in-Some.ensures) c.if-may_stand.false c.may_stand.ensures
    (Marks c.args.names.now.marks (named_by (node_at bs) (i + 1)))

pub returns-in-None : goal.returns-in-None
returns-in-None c =
    λ bs i f marked. node_missing bs i c.args.before.now c.args.entry.now f c.args.width (sym c.in-None.ensures) (Marks c.args.names.now.marks (named_by (node_at bs) (i + 1)))
