use Rattle.std.proofs.Common.{◌≡◌, true, false, is_some, vec_items, refl, rules}
use Rattle.formulas.specs.Lawful.{is_formula}
use Rattle.task.specs.Values.{names}
use Rattle.task.specs.Held.{value_of}
use Rattle.task.proofs.Rules.{sound}
use Rattle.task.proofs.Taken.{root_below, goal_marks, goal_once, none_is, fresh_is}
use Rattle.task.proofs.place.Task.set_goal.Goals as goal

pub invariant_of-self-2-clause-once : goal.invariant_of-self-2-clause-once
invariant_of-self-2-clause-once c =
    let t = c.args.self.now in
    let good : is_formula (vec_items t.nodes) c.args.goal ≡ true = search rules in
    let never : is_some t.goal ≡ false = search rules in
    let claim = c.if-not-claim.ensures.named (names (value_of t)) (root_below (vec_items t.nodes) c.args.goal (sound t).few_nodes good) (rw c.deref_mut.ensures.value t.marked) in
    goal_once (value_of t) t.once c.args.goal (none_is t.goal never) (fresh_is claim refl)

pub invariant_of-self-2-clause-marked : goal.invariant_of-self-2-clause-marked
invariant_of-self-2-clause-marked c =
    let t = c.args.self.now in
    let good : is_formula (vec_items t.nodes) c.args.goal ≡ true = search rules in
    let never : is_some t.goal ≡ false = search rules in
    let claim = c.if-not-claim.ensures.named (names (value_of t)) (root_below (vec_items t.nodes) c.args.goal (sound t).few_nodes good) (rw c.deref_mut.ensures.value t.marked) in
    goal_marks (value_of t) c.args.goal (none_is t.goal never) (claim.marks refl)
