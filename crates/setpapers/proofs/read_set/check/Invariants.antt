use Rattle.std.proofs.Common.{◌≡◌, true}
use Rattle.setpapers.specs.Rows.{all}
use Rattle.setpapers.proofs.read_set.check.Given as goal

abbrev pub invariant-loop-i : goal.invariant-loop-i
invariant-loop-i g l = (all (g.K.SetKind.lawful l.width l.body) l.i ≡ true) × g.K.SetKind.remembers l.body l.i l.seen
