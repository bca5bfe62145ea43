use Rattle.std.proofs.Common.{◌≡◌, take}
use Rattle.std.specs.Prelude.{count_by}
use Rattle.logic.specs.Partial.{holds_state}
use Rattle.logic.specs.Views.{partial}
use Rattle.setpapers.specs.Lists.{state_of}
use Rattle.setpapers.proofs.list.count_in.Given as goal

abbrev pub invariant-loop-state : goal.invariant-loop-state
invariant-loop-state l = l.found ≡ count_by (λ xs. holds_state (partial l.cube) (state_of xs)) (take l.state-index l.state-items)
