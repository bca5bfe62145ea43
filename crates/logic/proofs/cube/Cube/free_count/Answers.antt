use Rattle.std.proofs.Common.{◌≤◌, arith}
use Rattle.std.specs.Prelude.{count_ones}
use Rattle.std.proofs.lemmas.Nat.{ones-le}
use Rattle.logic.proofs.cube.Cube.free_count.Goals as goal

-- src/cube/asking.rt:59:9
pub overflow_sub-result : goal.overflow_sub-result
overflow_sub-result c =
    let self = c.args.self.now in
    let few : count_ones self.known ≤ self.width = ones-le self.width self.known self.within in
    omega (arith, few, c.from.ensures)
