use Rattle.std.proofs.Common.{refl}
use Rattle.task.specs.Held.{model}
use Rattle.task.proofs.Rules.{well_formed}
use Rattle.card.proofs.Completeness.{completes}
use Rattle.card.proofs.Laws.{keeps_opened}
use Rattle.card.proofs.card.Card.open.Goals as goal

pub returns-clause-law : goal.returns-clause-law
returns-clause-law g c =
    let t = c.args.task in
    keeps_opened g.C.Cost.ordered t _ refl (completes (model t) (well_formed t) t.width)
