use Rattle.std.proofs.Common.{◌≡◌, ◌<◌, ◌≤◌, length, get_or, ap, arith, rules}
use Rattle.std.proofs.lemmas.Result.{err_from_is_err_and, IfOk-from_err}
use Rattle.logic.specs.Partial.{free_count}
use Rattle.logic.specs.Views.{partial, fine}
use Rattle.logic.proofs.Halves.{fewer}
use Rattle.trees.proofs.Steps.{tree_fails, tree_goes}
use Rattle.trees.proofs.check.+check_tree.Goals as goal

pub check_tree-requires : goal.check_tree-requires
check_tree-requires g t c κs within =
    let cut = c.in-Some-split.ensures in
    let less = fewer (partial c.args.cube) c.in-Some.field-0.now (fine c.args.cube) cut.0 in
    let is : free_count (partial c.args.cube) ≡ t = c.decreases in
    let falls : free_count (partial c.in-Some-split.low) < t = omega (arith, less, is, ap free_count cut.1) in
    (falls, within)

pub returns-in_err-middle : goal.returns-in_err-middle
returns-in_err-middle g t c =
    let on : c.args.at < length c.args.body.now = search rules in
    let read : c.in-Some.field-0.now ≡ get_or c.args.body.now c.args.at 0 = search rules in
    let cut = c.in-Some-split.ensures in
    let p = err_from_is_err_and c.from_residual.result c.from_residual.ensures.1 in
    record {
      value =
          tree_fails (g.L.LeafRules.settles c.args.rules.now c.args.rule) c.args.body.now c.args.at (partial c.args.cube) c.in-Some.field-0.now on read (fine c.args.cube) c.if-byte.false
          cut.0 (partial c.in-Some-split.low) cut.1 c.check_tree.result c.check_tree.ensures.value c.in_err-middle.field-0.0 p.0 c.from_residual.result c.in_err-middle.was p.1 p.2;
      bound = IfOk-from_err c.from_residual.result (λ n. n ≤ length c.args.body.now) c.from_residual.ensures.0;
    }

pub check_tree-requires-2 : goal.check_tree-requires-2
check_tree-requires-2 g t c κs within =
    let cut = c.in-Some-split.ensures in
    let less = fewer (partial c.args.cube) c.in-Some.field-0.now (fine c.args.cube) cut.0 in
    let is : free_count (partial c.args.cube) ≡ t = c.decreases in
    let falls : free_count (partial c.in-Some-split.high) < t = omega (arith, less, is, ap free_count cut.2) in
    (falls, within)

pub returns : goal.returns
returns g t c =
    let on : c.args.at < length c.args.body.now = search rules in
    let read : c.in-Some.field-0.now ≡ get_or c.args.body.now c.args.at 0 = search rules in
    let cut = c.in-Some-split.ensures in
    record {
      value =
          tree_goes (g.L.LeafRules.settles c.args.rules.now c.args.rule) c.args.body.now c.args.at (partial c.args.cube) c.in-Some.field-0.now on read (fine c.args.cube) c.if-byte.false
          cut.0 (partial c.in-Some-split.low) cut.1 c.check_tree.result c.check_tree.ensures.value (partial c.in-Some-split.high) c.in_ok-middle.middle c.check_tree-2.result
          c.in_ok-middle.was cut.2 c.check_tree-2.ensures.value;
      bound = c.check_tree-2.ensures.bound;
    }
