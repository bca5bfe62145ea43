use Rattle.std.proofs.Common.{◌≡◌, ◌%◌, ◌^◌, ap, ◌∙◌, mod-eq_of_lt}
use Rattle.logic.specs.Kleene.{sure}
use Rattle.logic.specs.Partial.{single}
use Rattle.logic.specs.Views.{partial}
use Rattle.task.proofs.States.{one_state}
use Rattle.judge.proofs.leaves.Leaves.holds_start.Goals as goal

pub returns : goal.returns
returns g c =
    let t = c.args.self.now.task.now in
    let ask = g.S.StateSet.answer c.args.self.now.set.now in
    let one : partial c.at-start.result ≡ single t.n (c.start.result % 2 ^ t.n) = one_state t.n c.start.result c.states.result c.at-start.result c.states.ensures c.at-start.ensures in
    let is : c.start.result % 2 ^ t.n ≡ t.start = ap (λ s. s % 2 ^ t.n) c.start.ensures ∙ mod-eq_of_lt t.begins in
    c.is_true.ensures ∙ ap sure c.ask.ensures ∙ ap (λ k. sure (ask k)) (one ∙ ap (single t.n) is)
