use Rattle.logic.proofs.Full.{full_fine, full_is}
use Rattle.logic.proofs.cube.Cube.at.Goals as goal

pub invariant_of-result : goal.invariant_of-result
invariant_of-result c =
    let self = c.args.self.now in
    let fine = full_fine self.width c.ones-full.result c.args.state c.ones-full.ensures in
    record { narrow = self.narrow; within = fine.inside; part = fine.part }

pub returns : goal.returns
returns c = full_is c.args.self.now.width c.ones-full.result c.args.state c.ones-full.ensures
