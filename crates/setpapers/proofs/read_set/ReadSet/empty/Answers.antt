use Rattle.std.proofs.Common.{[], ap, ◌∙◌, arith}
use Rattle.setpapers.specs.Rows.{all, all_none}
use Rattle.setpapers.proofs.read_set.ReadSet.empty.Goals as goal

pub invariant_of-result : goal.invariant_of-result
invariant_of-result g c =
    let none = g.met.K.SetKind.none in
    record { few = omega (arith, none); fine = ap (all (g.K.SetKind.lawful _ [])) none ∙ all_none _ }
