use Rattle.std.proofs.Common.{◌≡◌}
use Rattle.card.specs.declared.card.Walk.{Walk}
use Rattle.card.specs.Cards.{set_out}
use Rattle.card.proofs.Laws.{walks_begun}
use Rattle.card.proofs.card.Card.begin.Goals as goal

pub returns : goal.returns
returns g c =
    let K = g.C.Cost.kind in
    let card = c.args.self in
    let after : ◌≡◌ {A = Walk _} (record { card = card; reached = c.begin-reached.result }) (set_out K card) =
    λ i. record { card = card; reached = c.begin-reached.ensures i } in
    record { after = after; law = walks_begun g.C.Cost.ordered card _ after }
