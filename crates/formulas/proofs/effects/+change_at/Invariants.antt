use Rattle.formulas.proofs.effects.+change_at.Given as goal

abbrev pub decreases-change_at : goal.decreases-change_at
decreases-change_at g l = l.at
