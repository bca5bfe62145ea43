use Rattle.std.proofs.Common.{◌∷◌}
use Rattle.formulas.proofs.Claims.{claimed_two}
use Rattle.formulas.proofs.names.Names.claim_both.Goals as goal

pub returns-then-claim-clause-named : goal.returns-then-claim-clause-named
returns-then-claim-clause-named c ns low high m =
    claimed_two ns c.args.first c.args.second _ _ (c.claim.ensures.named ns low m) c.if-claim.true (c.claim-then-claim.ensures.named (c.args.first ∷ ns) high)
