use Rattle.card.proofs.Laws.{keeps_plan}
use Rattle.card.proofs.card.Card.lodge_plan.Goals as goal

pub returns-clause-law : goal.returns-clause-law
returns-clause-law g c = keeps_plan g.C.Cost.ordered c.args.self.now _ c.args.paper.now _ c.judge_plan-answer.ensures.verdict c.note.ensures
