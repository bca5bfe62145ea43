use Rattle.std.proofs.Common.{Err, sym, refl, ap, ◌∙◌}
use Rattle.std.proofs.lemmas.Result.{err_from_is_err_and}
use Rattle.card.specs.Cards.{moved}
use Rattle.card.proofs.Laws.{walks_step}
use Rattle.card.proofs.card.Walk.step.Goals as goal

pub returns-in_err-self-clause-law : goal.returns-in_err-self-clause-law
returns-in_err-self-clause-law g c =
    let p = err_from_is_err_and c.from_residual.result c.from_residual.ensures.1 in
    let answer = p.1 ∙ ap Err p.2 ∙ c.in_err-self.ensures in
    walks_step g.C.Cost.ordered c.args.self.now _ c.args.operator _ answer (sym (ap (moved c.args.self.now) p.1))

pub returns-clause-law : goal.returns-clause-law
returns-clause-law g c = walks_step g.C.Cost.ordered c.args.self.now _ c.args.operator _ c.in_ok-self.ensures refl
