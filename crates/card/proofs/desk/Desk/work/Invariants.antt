use Rattle.std.proofs.Common.{◌≡◌, ◌≤◌, length, take, vec_items, vec_len, vec_capacity}
use Rattle.planning.specs.Model.{Model}
use Rattle.card.specs.History.{History}
use Rattle.card.specs.Desks.{Stands, Works}
use Rattle.card.proofs.desk.Desk.work.Given as goal

abbrev pub invariant-loop-call : goal.invariant-loop-call
invariant-loop-call g l =
    (l.call-index ≤ length l.calls) × (vec_len l.replies ≡ l.call-index) × (length l.calls ≤ vec_capacity l.replies)
    × ((m : Model) (h : History g.row.C.Denot) → Stands g.C.Cost.kind m h l.initial.desk → Works g.C.Cost.kind g.S.StateSet.answer g.P.AsSlice.items m (take l.call-index l.calls) (vec_items l.replies) h l.desk)
