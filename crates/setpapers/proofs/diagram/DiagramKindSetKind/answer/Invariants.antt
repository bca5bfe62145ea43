use Rattle.std.proofs.Common.{◌≡◌, length}
use Rattle.logic.specs.Partial.{truth}
use Rattle.logic.specs.Views.{partial}
use Rattle.setpapers.specs.Decisions.{answers}
use Rattle.setpapers.specs.Diagrams.{entry_at, root}
use Rattle.setpapers.proofs.Answered.{Answered}
use Rattle.setpapers.proofs.diagram.DiagramKindSetKind.answer.Given as goal

abbrev pub invariant-loop-i : goal.invariant-loop-i
invariant-loop-i l =
    let ρ = truth (partial l.cube) in
    let e = entry_at l.set.body.now in
    (length l.answered ≡ 1024) × Answered ρ e l.answered l.i × (l.root ≡ answers ρ (root e l.i))
