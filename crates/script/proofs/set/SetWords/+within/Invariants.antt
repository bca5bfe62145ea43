use Rattle.script.proofs.set.SetWords.+within.Given as goal

abbrev pub decreases-within : goal.decreases-within
decreases-within l = l.depth
