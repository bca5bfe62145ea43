use Rattle.std.proofs.Common.{◌≡◌, true, Err, Ok, sym, subst, rules}
use Rattle.setpapers.specs.Papers.{outcome, Found}
use Rattle.setpapers.specs.Rows.{all}
use Rattle.setpapers.specs.Verdicts.{verdict_ok}
use Rattle.setpapers.proofs.Found.{verdict_found}
use Rattle.setpapers.proofs.read_set.ReadSet.of.Goals as goal

pub returns-in_err-check-clause-rules : goal.returns-in_err-check-clause-rules
returns-in_err-check-clause-rules g c =
    let k = g.K.SetKind in
    let w = c.args.width in
    let read = c.in_ok-body.ensures in
    let x = c.in_err-check.field-0.0 in
    let e : c.from_residual-in_err-check.result ≡ Err x = search rules in
    subst (λ r. Found k.PAPER k.LEAST k.count (k.rule w) c.args.paper.now (outcome r)) (sym e)
    (verdict_found k.PAPER k.LEAST k.count (k.lawful w) (k.rule w) (g.met.K.SetKind.keeps w) (g.met.K.SetKind.kept w) c.args.paper.now c.PAPER.result c.in_ok-body.body.now (Err x) c.PAPER.ensures read.value read.exact c.in_err-check.ensures)

pub invariant_of-set : goal.invariant_of-set
invariant_of-set g c =
    let bs = c.in_ok-body.body.now in
    let v = verdict_ok (g.K.SetKind.lawful c.args.width bs) g.K.SetKind.LEAST (g.K.SetKind.count bs) (sym c.in_ok-check.ensures) in
    record { few = v.0; fine = subst (λ n. all (g.K.SetKind.lawful n bs) (g.K.SetKind.count bs) ≡ true) (sym c.empty-set.ensures.width) v.1 }

pub returns-clause-rules : goal.returns-clause-rules
returns-clause-rules g c =
    let k = g.K.SetKind in
    let w = c.args.width in
    let read = c.in_ok-body.ensures in
    verdict_found k.PAPER k.LEAST k.count (k.lawful w) (k.rule w) (g.met.K.SetKind.keeps w) (g.met.K.SetKind.kept w) c.args.paper.now c.PAPER.result c.in_ok-body.body.now (Ok tt) c.PAPER.ensures read.value read.exact c.in_ok-check.ensures
