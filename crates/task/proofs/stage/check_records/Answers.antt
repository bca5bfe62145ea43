use Rattle.std.proofs.Common.{Some, sym, subst}
use Rattle.records.specs.Walks.{Gives}
use Rattle.records.proofs.Turns.{onward}
use Rattle.task.proofs.stage.check_records.Goals as goal

pub loop-record-preserved : goal.loop-record-preserved
loop-record-preserved c =
    let w = c.loop-record.record-iterator in
    let t = c.next.new.self in
    (tt, tt, onward _ _ _ _ c.loop-record.invariant.2 (subst (λ x. Gives w (Some x) t) c.in_ok-record.was c.in-Some.ensures.steps) _ (sym c.in_ok-stage.ensures))
