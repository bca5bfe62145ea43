use Rattle.std.proofs.Common.{◌≡◌, ◌<◌, ◌≤◌, true, sym, ◌∙◌, subst, arith}
use Rattle.setpapers.specs.Rows.{all, all_none, all_more}
use Rattle.setpapers.specs.Verdicts.{verdict_many, verdict_lacks, verdict_fine, verdict_bad}
use Rattle.setpapers.proofs.Firsts.{row_count, follows}
use Rattle.setpapers.proofs.read_set.check.Goals as goal

pub returns-then-entries-gt1024 : goal.returns-then-entries-gt1024
returns-then-entries-gt1024 g c =
    let bs = c.args.body.now in
    let so_many = row_count (g.K.SetKind.row bs) (g.K.SetKind.count bs) c.entries-entries.result.now c.entries-entries.ensures in
    verdict_many (g.K.SetKind.lawful c.args.width bs) g.K.SetKind.LEAST (g.K.SetKind.count bs) (omega (arith, so_many, c.if-entries-gt1024.true))

pub returns-then-entries-LEAST : goal.returns-then-entries-LEAST
returns-then-entries-LEAST g c =
    let bs = c.args.body.now in
    let so_many = row_count (g.K.SetKind.row bs) (g.K.SetKind.count bs) c.entries-entries.result.now c.entries-entries.ensures in
    verdict_lacks (g.K.SetKind.lawful c.args.width bs) g.K.SetKind.LEAST (g.K.SetKind.count bs) (omega (arith, so_many, c.if-entries-gt1024.false)) (omega (arith, so_many, c.if-entries-LEAST.true))

pub loop-i-init : goal.loop-i-init
loop-i-init g c = (all_none _, c.nothing_seen-seen.ensures c.args.body.now)

pub returns-then-not-may_follow : goal.returns-then-not-may_follow
returns-then-not-may_follow g c =
    let bs = c.args.body.now in
    let row = g.K.SetKind.row bs in
    let n = g.K.SetKind.count bs in
    let i = c.loop-i.i in
    let so_many = row_count row n c.entries-entries.result.now c.entries-entries.ensures in
    let few : n ≤ 1024 = omega (arith, so_many, c.if-entries-gt1024.false) in
    let inside : i < n = omega (arith, so_many, c.loop-i-test.true) in
    let one = c.may_follow.ensures bs i (follows row n c.entries-entries.result.now c.entries-entries.ensures i c.index-entries-i.result few inside c.index-entries-i.is) c.loop-i.invariant.1 in
    verdict_bad (g.K.SetKind.lawful c.args.width bs) g.K.SetKind.LEAST n few (omega (arith, so_many, c.if-entries-LEAST.false)) i c.loop-i.invariant.0 (sym one.tested ∙ c.if-not-may_follow.true) inside

pub loop-i-preserved : goal.loop-i-preserved
loop-i-preserved g c =
    let bs = c.args.body.now in
    let row = g.K.SetKind.row bs in
    let n = g.K.SetKind.count bs in
    let i = c.loop-i.i in
    let so_many = row_count row n c.entries-entries.result.now c.entries-entries.ensures in
    let few : n ≤ 1024 = omega (arith, so_many, c.if-entries-gt1024.false) in
    let inside : i < n = omega (arith, so_many, c.loop-i-test.true) in
    let one = c.may_follow.ensures bs i (follows row n c.entries-entries.result.now c.entries-entries.ensures i c.index-entries-i.result few inside c.index-entries-i.is) c.loop-i.invariant.1 in
    let yes = c.if-not-may_follow.false in
    (all_more (g.K.SetKind.lawful c.args.width bs) i c.loop-i.invariant.0 (sym one.tested ∙ yes), one.remembered yes)

pub returns : goal.returns
returns g c =
    let bs = c.args.body.now in
    let p = g.K.SetKind.lawful c.args.width bs in
    let n = g.K.SetKind.count bs in
    let so_many = row_count (g.K.SetKind.row bs) n c.entries-entries.result.now c.entries-entries.ensures in
    let e : c.loop-i.i ≡ n = omega (arith, so_many, c.loop-i-test.false) in
    verdict_fine p g.K.SetKind.LEAST n (omega (arith, so_many, c.if-entries-gt1024.false)) (omega (arith, so_many, c.if-entries-LEAST.false)) (subst (λ m. all p m ≡ true) e c.loop-i.invariant.0)
