use Rattle.std.proofs.Common.{sym, subst}
use Rattle.logic.specs.Contained.{has_from}
use Rattle.logic.specs.Partial.{truth}
use Rattle.logic.specs.States.{Allows}
use Rattle.logic.specs.Views.{partial}
use Rattle.formulas.specs.Decode.{formula_at}
use Rattle.formulas.specs.Formula.{holds}
use Rattle.formulas.specs.Results.{state}
use Rattle.formulas.specs.Sound.{kleene_sound}
use Rattle.formulas.proofs.table.value.Goals as goal

pub returns : goal.returns
returns g c =
    let cube = partial c.args.cube.now in
    let formula = formula_at (g.N.NodeTable.nodes c.args.nodes.now) c.args.at in
    record {
      truth = c.evaluate.ensures;
      sound = λ s i. subst (λ t. Allows t (holds (state s) formula)) (sym c.evaluate.ensures) (kleene_sound (truth cube) (state s) (has_from cube s i.agrees) formula);
    }
