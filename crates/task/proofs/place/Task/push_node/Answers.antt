use Rattle.std.proofs.Common.{◌≡◌, true, vec_items, refl, rules}
use Rattle.formulas.specs.Lawful.{lawful}
use Rattle.task.specs.Values.{names}
use Rattle.task.specs.Held.{value_of}
use Rattle.formulas.proofs.Following.{children_below}
use Rattle.task.proofs.Rules.{sound}
use Rattle.task.proofs.Taken.{ruled_push, rooted_more, aims_more, node_marks, node_once, fresh_is}
use Rattle.task.proofs.place.Task.push_node.Goals as goal

pub invariant_of-self-2-clause-ruled : goal.invariant_of-self-2-clause-ruled
invariant_of-self-2-clause-ruled c =
    let t = c.args.self.now in
    ruled_push t.n (vec_items t.nodes) c.in-Some.node c.push_reserved.ensures.items t.ruled (search rules)

pub invariant_of-self-2-clause-rooted : goal.invariant_of-self-2-clause-rooted
invariant_of-self-2-clause-rooted c =
    let t = c.args.self.now in
    rooted_more (vec_items t.nodes) _ (vec_items t.operators) c.push_reserved.ensures.items t.rooted

pub invariant_of-self-2-clause-aimed : goal.invariant_of-self-2-clause-aimed
invariant_of-self-2-clause-aimed c =
    let t = c.args.self.now in
    aims_more (vec_items t.nodes) _ t.goal c.push_reserved.ensures.items t.aimed

pub invariant_of-self-2-clause-once : goal.invariant_of-self-2-clause-once
invariant_of-self-2-clause-once c =
    let t = c.args.self.now in
    let good : lawful t.n (vec_items t.nodes) c.in-Some.node ≡ true = search rules in
    let claim = c.if-not-claim_children.ensures.named (names (value_of t)) (children_below t.n (vec_items t.nodes) c.in-Some.node 1024 (sound t).few_nodes good) (rw c.deref_mut.ensures.value t.marked) in
    node_once (value_of t) t.once c.in-Some.node _ c.push_reserved.ensures.items (fresh_is claim refl)

pub invariant_of-self-2-clause-marked : goal.invariant_of-self-2-clause-marked
invariant_of-self-2-clause-marked c =
    let t = c.args.self.now in
    let good : lawful t.n (vec_items t.nodes) c.in-Some.node ≡ true = search rules in
    let claim = c.if-not-claim_children.ensures.named (names (value_of t)) (children_below t.n (vec_items t.nodes) c.in-Some.node 1024 (sound t).few_nodes good) (rw c.deref_mut.ensures.value t.marked) in
    node_marks (value_of t) c.in-Some.node _ c.push_reserved.ensures.items (claim.marks refl)
