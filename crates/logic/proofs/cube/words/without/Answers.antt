use Rattle.logic.proofs.Freed.{bit_clear}
use Rattle.logic.proofs.cube.words.without.Goals as goal

pub returns : goal.returns
returns c = λ u. bit_clear c.args.word c.args.v u c.ranges.word.fits c.requires
