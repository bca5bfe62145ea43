use Rattle.std.proofs.Common.{◌≡◌, ◌^◌, sym, ap, ◌∙◌, arith}
use Rattle.logic.specs.Partial.{free_count, holds_state}
use Rattle.logic.specs.Views.{partial}
use Rattle.setpapers.specs.Count.{tally}
use Rattle.setpapers.specs.Lists.{states, state_at}
use Rattle.setpapers.proofs.Listed.{open_said, too_wide, power_word}
use Rattle.setpapers.proofs.list.ListKindSetKind.answer.Goals as goal
use Rattle.setpapers.proofs.list.ListKindSetKind.answer.Goals.{else-free-le10-via-then-free-le10+else-found-free, else-free-le10-via-else-free-le10}

pub returns-else-free-le10 : goal.returns-else-free-le10
returns-else-free-le10 c =
    let s = c.args.set.now in
    let q = partial c.args.cube.now in
    let full : tally (holds_state q) (state_at s.body.now) (states s.body.now) ≡ 2 ^ free_count q → ⊥ = elim c.else-free-le10.branch [
      | else-free-le10-via-then-free-le10+else-found-free w ↦ λ e. w.if-found-free.false (c.count_in-found.ensures ∙ e ∙ ap (λ n. 2 ^ n) (sym c.free_count-free.ensures) ∙ power_word c.free_count-free.result w.if-free-le10.true)
      | else-free-le10-via-else-free-le10 w ↦ too_wide s.body.now q s.few (omega (arith, w.if-free-le10.false, c.free_count-free.ensures))
    ] in
    open_said s.body.now q (λ z. c.if-found-eq0.false (c.count_in-found.ensures ∙ z)) full
