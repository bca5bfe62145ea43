use Rattle.std.proofs.Common.{sym, ap, ◌∙◌}
use Rattle.logic.specs.Views.{partial}
use Rattle.mixedsets.specs.declared.layered.Layered.{Layered}
use Rattle.mixedsets.specs.LayeredSets.{joined, told_at, layered_wide, layered_answer}
use Rattle.mixedsets.proofs.Layers.{told_pair}
use Rattle.mixedsets.proofs.layered.+answer_at.Goals as goal

pub returns-in_ok-first-in-Pair : goal.returns-in_ok-first-in-Pair
returns-in_ok-first-in-Pair g t c =
    let m = g.P.StateSet in
    let q = partial c.args.cube.now in
    let told = λ (s : Layered g.row.P.Denot). told_at (layered_wide m.wide s) q (layered_answer m.wide m.answer s q) in
    told_pair m.wide m.has m.answer m.meant c.in-Pair.connective c.in-Pair.first.value c.in-Pair.second.value q c.in_ok-first-in-Pair.first c.answer_at-in-Pair-2.result c.join.result
    (c.in_ok-first-in-Pair.ensures ∙ ap told c.deref-in-Pair.ensures) (c.answer_at-in-Pair-2.ensures ∙ ap told c.deref-in-Pair-2.ensures) (c.join.ensures ∙ ap (λ b. joined c.in-Pair.connective c.in_ok-first-in-Pair.first b) c.unwrap_or-second.ensures)
    ∙ ap told (sym c.in-Pair.is)
