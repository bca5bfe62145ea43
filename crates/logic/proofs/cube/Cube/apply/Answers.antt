use Rattle.std.proofs.Common.{◌<◌, arith}
use Rattle.logic.specs.Contained.{cube_from_lem}
use Rattle.logic.proofs.Applied.{new_fine, new_seen}
use Rattle.logic.proofs.cube.Cube.apply.Goals as goal

pub invariant_of-result : goal.invariant_of-result
invariant_of-result c =
    let q = c.args.self.now in
    let s = c.args.change.now.set in
    let k = c.args.change.now.clear in
    let fine = new_fine q.width c.ones-full.result q.known q.value s.must s.may k.must k.may q.narrow c.ones-full.ensures in
    record { narrow = q.narrow; within = fine.inside; part = fine.part }

pub returns : goal.returns
returns c =
    let q = c.args.self.now in
    let s = c.args.change.now.set in
    let k = c.args.change.now.clear in
    let full = c.ones-full.result in
    λ S K made.
    cube_from_lem _ (new_fine q.width full q.known q.value s.must s.may k.must k.may q.narrow c.ones-full.ensures) _
    (λ v h.
    let low : v < 64 = omega (arith, q.narrow) in
    new_seen q.width full q.known q.value s.must s.may k.must k.may q.narrow c.ones-full.ensures v (S v) (K v) h q.part
    (omega arith) (omega arith) (omega arith) (made.set.must v low) (made.set.may v low) (made.clear.must v low) (made.clear.may v low))
