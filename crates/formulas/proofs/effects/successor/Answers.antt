use Rattle.std.proofs.Common.{◌≡◌, sym, ap, ◌∙◌, subst}
use Rattle.logic.specs.Partial.{PartialState, In}
use Rattle.logic.specs.Views.{partial}
use Rattle.formulas.specs.Decode.{effect_at}
use Rattle.formulas.specs.Results.{result, successor}
use Rattle.formulas.specs.Within.{effect_within}
use Rattle.formulas.proofs.After.{successor_has, successor_single}
use Rattle.formulas.proofs.effects.successor.Goals as goal

pub returns : goal.returns
returns g c =
    let nodes = g.N.NodeTable.nodes c.args.nodes.now in
    let wide = g.N.NodeTable.wide c.args.nodes.now in
    let effect = effect_at nodes c.args.at in
    let cube = partial c.args.cube.now in
    let is : partial c.apply.result ≡ successor effect cube = c.apply.ensures _ _ c.change_at.ensures in
    record {
      value = is;
      states = λ s i. subst (λ (r : PartialState). In r (result cube.width effect s)) (sym is) (successor_has effect cube s i);
      total = λ s e. is ∙ ap (successor effect) e ∙ successor_single effect wide s (effect_within wide nodes (g.N.NodeTable.ordered c.args.nodes.now) c.args.at);
    }
