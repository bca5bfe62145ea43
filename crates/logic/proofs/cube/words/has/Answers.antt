use Rattle.std.proofs.Common.{◌/◌, ◌^◌, eqb, ap}
use lib.Bits.{and_mask}
use Rattle.logic.specs.Bit.{bit}
use Rattle.logic.proofs.cube.words.has.Goals as goal

pub returns : goal.returns
unfolding bit
returns c = ap (λ x. eqb x 1) (and_mask (c.args.word / 2 ^ c.args.v) 1)
