use Rattle.std.proofs.Common.{arith}
use Rattle.logic.specs.Views.{partial, fine}
use Rattle.logic.proofs.Freed.{freed_same, freed_fine, freed_is}
use Rattle.logic.proofs.cube.Cube.free.Goals as goal

pub returns-then-v-ge64 : goal.returns-then-v-ge64
returns-then-v-ge64 c =
    let self = c.args.self in
    freed_same (partial self) (fine self) c.args.v (omega (arith, self.narrow, c.if-v-ge64.true))

pub invariant_of-result : goal.invariant_of-result
invariant_of-result c =
    let self = c.args.self in
    let f = freed_fine (partial self) (fine self) c.args.v c.without.result c.without-2.result c.without.type_inv c.without-2.type_inv c.without.ensures c.without-2.ensures in
    record { narrow = self.narrow; within = f.inside; part = f.part }

pub returns : goal.returns
returns c =
    let self = c.args.self in
    freed_is (partial self) (fine self) c.args.v c.without.result c.without-2.result c.without.type_inv c.without-2.type_inv c.without.ensures c.without-2.ensures
