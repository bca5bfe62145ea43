use Rattle.std.proofs.Common.{Some, subst}
use Rattle.std.proofs.lemmas.Result.{err_from_is_err_and}
use Rattle.records.specs.Walks.{Gives}
use Rattle.records.proofs.Turns.{onward, stops}
use Rattle.task.proofs.place.Task.fill.Goals as goal

pub returns-in_err-put : goal.returns-in_err-put
returns-in_err-put c =
    let w = c.loop-record.record-iterator in
    let t = c.next.new.self in
    let p = err_from_is_err_and c.from_residual-in_err-put.result c.from_residual-in_err-put.ensures.1 in
    rw (p.1, p.2) (stops _ _ _ _ c.loop-record.invariant.2 (subst (λ x. Gives w (Some x) t) c.in_ok-record.was c.in-Some.ensures.steps) _ c.in_err-put.ensures)

pub loop-record-preserved : goal.loop-record-preserved
loop-record-preserved c =
    let w = c.loop-record.record-iterator in
    let t = c.next.new.self in
    (tt, tt, onward _ _ _ _ c.loop-record.invariant.2 (subst (λ x. Gives w (Some x) t) c.in_ok-record.was c.in-Some.ensures.steps) _ c.in_ok-put.ensures)
