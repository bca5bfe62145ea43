-- What the records of a task say, one after another.
use Rattle.std.specs.Prelude.{◌≡◌, ℕ, ◌^◌, cond, not, ◌||◌, List, [], ◌∷◌, length, Some, None, Ok, Err, Option, Result, ◌==◌, nat_lt}
use Rattle.records.specs.Cuts.{Split}
use Rattle.records.specs.Single.{and_then}
use Rattle.records.specs.Walks.{map_err, walk}
use Rattle.records.specs.declared.RecordFault.TheVariants.{WrongKind}
use Rattle.formulas.specs.declared.node.Node.{Node}
use Rattle.formulas.specs.Lawful.{is_formula, lawful}
use Rattle.formulas.specs.Names.{children, clash}
use Rattle.task.specs.declared.faults.TaskFault.{TaskFault}
use Rattle.task.specs.declared.faults.TaskFault.TheVariants.{Record, Header as BadHeader, TooMany, BadNode, NamedTwice}
use Rattle.task.specs.declared.entries.Header.{Header}
use Rattle.task.specs.declared.entries.Operator.{Operator}
use Rattle.task.specs.Entries.{header_in, written_in, operator_in, number_in}
use Rattle.task.specs.Values.{Value, value, blank, with_node, with_operator, with_goal, names}
use Rattle.task.specs.Sound.{rooted}
use Rattle.task.specs.Stages.{records_in}

-- the task that a header begins: 1 to 64 variables, and no bit of the start beyond them
abbrev pub begun : ℕ → Header → Result Value TaskFault
begun at h =
    cond (h.n == 0 || (nat_lt 64 h.n || not (nat_lt h.start (2 ^ h.n)))) (Err (BadHeader at))
    (Ok (value h.n h.start [] [] None))

-- a task that takes up new names, each for the first time
abbrev pub naming : ℕ → Value → List ℕ → Value → Result Value TaskFault
naming at v cs w = cond (clash (names v) cs) (Err (NamedTwice at)) (Ok w)

abbrev pub node_put : ℕ → Value → Option Node → Result Value TaskFault
node_put at v None = Err (BadNode at)
node_put at v (Some x) = cond (lawful v.n v.nodes x) (naming at v (children x) (with_node v x)) (Err (BadNode at))

-- at most 1,024 nodes
abbrev pub node_added : ℕ → Value → Option Node → Result Value TaskFault
node_added at v x = cond (nat_lt (length v.nodes) 1024) (node_put at v x) (Err (TooMany at))

-- at most 128 operators
abbrev pub operator_added : ℕ → Value → Operator → Result Value TaskFault
operator_added at v o =
    cond (nat_lt (length v.operators) 128)
    (cond (rooted v.nodes o) (naming at v (o.precondition ∷ o.effect ∷ []) (with_operator v o)) (Err (BadNode at)))
    (Err (TooMany at))

-- one goal
abbrev pub goal_added : ℕ → Value → Option ℕ → ℕ → Result Value TaskFault
goal_added at v None g = cond (is_formula v.nodes g) (naming at v (g ∷ []) (with_goal v g)) (Err (BadNode at))
goal_added at v (Some h) g = Err (Record (WrongKind at))

-- what one record adds to a task
abbrev pub content_of : ℕ → ℕ → List ℕ → Value → Result Value TaskFault
content_of at kind bs v =
    cond (kind == 1) (and_then (map_err Record (header_in at bs)) (begun at))
    (cond (kind == 2) (and_then (map_err Record (written_in at bs)) (node_added at v))
    (cond (kind == 3) (and_then (map_err Record (operator_in at bs)) (operator_added at v))
    (cond (kind == 4) (and_then (map_err Record (number_in at bs)) (goal_added at v v.goal))
    (Err (Record (WrongKind at))))))

abbrev pub content_step : ℕ → Split → Value → Result Value TaskFault
content_step at r v = content_of at r.kind r.body v

abbrev pub contents_in : List ℕ → Result Value TaskFault
contents_in paper = walk Record content_step (length paper) 0 paper blank

-- the task of a paper: its records first, then what they say
abbrev pub task_in : List ℕ → Result Value TaskFault
task_in paper = and_then (map_err Record (records_in paper)) (λ _. contents_in paper)

-- the answer without the task, and the task or else the blank one
abbrev pub verdict : Result Value TaskFault → Result (Unit {0}) TaskFault
verdict (Ok v) = Ok tt
verdict (Err e) = Err e

abbrev pub held : Result Value TaskFault → Value
held (Ok v) = v
held (Err e) = blank

-- an answer r and a task t are what is told
abbrev pub Agrees : Result Value TaskFault → Value → Result (Unit {0}) TaskFault → Type 0
Agrees told t (Ok x) = told ≡ Ok t
Agrees told t (Err e) = told ≡ Err e
