use Rattle.std.proofs.Common.{◌≤◌, arith}
use Rattle.logic.specs.Views.{partial, fine}
use Rattle.trees.proofs.Covered.{proof_covers}
use Rattle.trees.proofs.Exactly.{answered_body}
use Rattle.trees.proofs.Pathways.{leaves_know}
use Rattle.trees.proofs.check.check_body.Goals as goal

pub returns : goal.returns
returns g c =
    let settles = g.L.LeafRules.settles c.args.rules.now in
    let space = partial c.args.space in
    let narrow : c.args.space.width ≤ 255 = omega (arith, c.args.space.narrow) in
    let exactly = answered_body settles c.args.body.now space (fine c.args.space) narrow c.args.count c.check_trees.result c.check_trees.ensures in
    record {
      value = c.check_trees.ensures;
      exact = exactly;
      covers = λ e. proof_covers settles space (fine c.args.space) c.args.body.now c.args.count (exactly.0 e);
      leaves = leaves_know space;
    }
