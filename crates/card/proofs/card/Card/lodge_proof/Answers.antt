use Rattle.card.proofs.Laws.{keeps_proof}
use Rattle.card.proofs.card.Card.lodge_proof.Goals as goal

pub returns-clause-law : goal.returns-clause-law
returns-clause-law g c =
    let judged = c.judge_proof-answer.ensures in
    keeps_proof g.C.Cost.ordered c.args.self.now _ (g.S.StateSet.answer c.args.set.now) c.args.paper.now _ judged.verdict (λ ok. (judged.sound ok).unsolvable) c.rule.ensures
