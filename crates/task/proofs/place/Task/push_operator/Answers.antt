use Rattle.std.proofs.Common.{◌≡◌, true, vec_items, refl, rules}
use Rattle.task.specs.Values.{names}
use Rattle.task.specs.Sound.{rooted}
use Rattle.task.specs.Held.{value_of}
use Rattle.task.proofs.Rules.{sound}
use Rattle.task.proofs.Taken.{roots_below, rooted_push, operator_marks, operator_once, fresh_is}
use Rattle.task.proofs.place.Task.push_operator.Goals as goal

pub invariant_of-self-2-clause-rooted : goal.invariant_of-self-2-clause-rooted
invariant_of-self-2-clause-rooted c =
    let t = c.args.self.now in
    rooted_push (vec_items t.nodes) (vec_items t.operators) c.args.operator c.push_reserved.ensures.items t.rooted (search rules)

pub invariant_of-self-2-clause-once : goal.invariant_of-self-2-clause-once
invariant_of-self-2-clause-once c =
    let t = c.args.self.now in
    let good : rooted (vec_items t.nodes) c.args.operator ≡ true = search rules in
    let low = roots_below (vec_items t.nodes) c.args.operator (sound t).few_nodes good in
    operator_once (value_of t) t.once c.args.operator _ c.push_reserved.ensures.items (fresh_is (c.if-not-claim_both.ensures.named (names (value_of t)) low.0 low.1 (rw c.deref_mut.ensures.value t.marked)) refl)

pub invariant_of-self-2-clause-marked : goal.invariant_of-self-2-clause-marked
invariant_of-self-2-clause-marked c =
    let t = c.args.self.now in
    let good : rooted (vec_items t.nodes) c.args.operator ≡ true = search rules in
    let low = roots_below (vec_items t.nodes) c.args.operator (sound t).few_nodes good in
    let claim = c.if-not-claim_both.ensures.named (names (value_of t)) low.0 low.1 (rw c.deref_mut.ensures.value t.marked) in
    operator_marks (value_of t) c.args.operator _ c.push_reserved.ensures.items (claim.marks refl)
