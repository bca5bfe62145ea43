use Rattle.records.proofs.Written.{single_exact}
use Rattle.records.proofs.single.Goals as goal

pub returns-clause-exact : goal.returns-clause-exact
returns-clause-exact c = single_exact c.args.kind c.args.paper.now (λ i. (c.type_inv.paper i).fits) _ c.only_record.ensures
