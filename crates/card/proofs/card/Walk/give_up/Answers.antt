use Rattle.card.proofs.Laws.{keeps_given_up}
use Rattle.card.proofs.card.Walk.give_up.Goals as goal

pub returns-clause-law : goal.returns-clause-law
returns-clause-law g c = keeps_given_up g.C.Cost.ordered c.args.self
