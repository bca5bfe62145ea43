use Rattle.std.proofs.Common.{List, [], vec_items, sym, refl, subst, arith, take_all, rules}
use Rattle.card.specs.declared.desk.Call.{Call}
use Rattle.card.specs.declared.desk.Reply.{Reply}
use Rattle.card.specs.Desks.{Follows}
use Rattle.card.proofs.Heard.{works_push}
use Rattle.card.proofs.desk.Desk.work.Goals as goal

pub loop-call-init : goal.loop-call-init
loop-call-init g c =
    let made = c.in-Ok.ensures in (
      omega arith,
      made.len,
      search rules,
      λ m h s. record {
        after = h;
        follows = subst (λ (rs : List (Reply g.row.C.Denot)). Follows g.S.StateSet.answer g.P.AsSlice.items [] rs h h) (sym made.items) refl;
        stands = s;
      },
    )

pub loop-call-preserved : goal.loop-call-preserved
loop-call-preserved g c = (
  omega arith,
  search rules,
  search rules,
  λ m h s.
      let before = c.loop-call.invariant.3 m h s in
      works_push g.C.Cost.kind g.S.StateSet.answer g.P.AsSlice.items m c.args.calls.now c.loop-call.call-index c.call-item.result c.loop-call-test.true c.call-item.is
      (vec_items c.loop-call.replies) (vec_items c.push_reserved.new.self) c.obey-next.result.1 c.push_reserved.ensures.items h c.loop-call.desk c.obey-next.result.0 before
      (c.obey-next.ensures m before.after before.stands),
)

pub returns : goal.returns
returns g c = λ m h s.
    let all = c.loop-call.invariant.3 m h s in
    record {
      after = all.after;
      follows = subst (λ (cs : List (Call g.row.S.Denot g.row.P.Denot)). Follows g.S.StateSet.answer g.P.AsSlice.items cs (vec_items c.loop-call.replies) h all.after) (take_all _ _ c.loop-call-test.false) all.follows;
      stands = all.stands;
    }
