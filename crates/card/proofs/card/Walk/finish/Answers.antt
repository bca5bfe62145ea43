use Rattle.card.proofs.Laws.{keeps_finish}
use Rattle.card.proofs.card.Walk.finish.Goals as goal

pub returns-clause-law : goal.returns-clause-law
returns-clause-law g c = keeps_finish g.C.Cost.ordered c.args.self _ _ c.finish-answer.ensures c.note.ensures
