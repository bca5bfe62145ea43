use Rattle.std.proofs.Common.{ap, ◌∙◌, take_all}
use Rattle.std.specs.Prelude.{count_by}
use Rattle.logic.specs.Partial.{holds_state}
use Rattle.logic.specs.Views.{partial}
use Rattle.setpapers.specs.Lists.{state_of}
use Rattle.setpapers.proofs.Listed.{count_listed}
use Rattle.setpapers.proofs.list.count_in.Goals as goal

pub returns : goal.returns
returns c =
    let p = holds_state (partial c.args.cube.now) in
    c.loop-state.invariant ∙ ap (count_by (λ xs. p (state_of xs))) (take_all _ _ c.loop-state-test.false)
    ∙ count_listed p c.args.body.now c.entries-state-items.result.now c.entries-state-items.ensures
