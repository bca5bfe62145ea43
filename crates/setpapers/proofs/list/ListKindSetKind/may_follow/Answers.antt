use Rattle.std.proofs.Common.{◌≡◌, ltb, ◌&&◌, ◌^◌, sym, ap, ◌∙◌, rules}
use Rattle.std.specs.Prelude.{MatchOption, IsTrue}
use Rattle.setpapers.specs.Count.{above}
use Rattle.setpapers.specs.Lists.{state_of, state_at}
use Rattle.setpapers.proofs.Listed.{entry_is, last_above}
use Rattle.setpapers.proofs.list.ListKindSetKind.may_follow.Goals as goal

pub returns-then-is_state : goal.returns-then-is_state
returns-then-is_state c =
    let before = c.args.before.now in
    let entry = c.args.entry.now in
    let test : MatchOption c.last.result (IsTrue c.is_none_or.result) (λ x. c.is_none_or.result ≡ ltb (state_of x.now) (state_of entry)) = search rules in
    λ bs i f seen. record {
      tested = last_above bs before entry i f c.last.result c.is_none_or.result c.last.ensures.value test
          ∙ ap (λ b. b && above (state_at bs) i) (sym c.if-is_state.true ∙ c.is_state.ensures ∙ ap (λ x. ltb x (2 ^ c.args.width)) (c.from_le_bytes-state.ensures ∙ entry_is bs before entry i f));
      remembered = λ yes. tt;
    }

pub returns-else-is_state : goal.returns-else-is_state
returns-else-is_state c =
    λ bs i f seen. record {
      tested = c.if-is_state.false
          ∙ ap (λ b. b && above (state_at bs) i) (sym c.if-is_state.false ∙ c.is_state.ensures ∙ ap (λ x. ltb x (2 ^ c.args.width)) (c.from_le_bytes-state.ensures ∙ entry_is bs c.args.before.now c.args.entry.now i f));
      remembered = λ yes. tt;
    }
