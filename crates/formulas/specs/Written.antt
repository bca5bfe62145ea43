-- How a node is written: a tag and two operands.
use Rattle.std.specs.Prelude.{ℕ, ◌+◌, ◌*◌, Bool, cond, ◌&&◌, List, Some, None, Option, Result, ◌==◌, nat_lt, slice_index, ok_or}
use Rattle.formulas.specs.declared.node.NoNode.{NoNode}
use Rattle.formulas.specs.declared.node.Node.{Node}
use Rattle.formulas.specs.declared.node.Node.TheVariants.{False, True, Variable, Not, And, Or, Empty, Set, Clear, Both, When}

-- a node, where its operands have the right shape
abbrev pub shaped : Bool → Node → Option Node
shaped fits x = cond fits (Some x) None

-- an unused operand is 0, and a variable's number is a byte
abbrev pub decoded : ℕ → ℕ → ℕ → Option Node
decoded tag a b =
    cond (tag == 0) (shaped (a == 0 && b == 0) False)
    (cond (tag == 1) (shaped (a == 0 && b == 0) True)
    (cond (tag == 2) (shaped (nat_lt a 256 && b == 0) (Variable a))
    (cond (tag == 3) (shaped (b == 0) (Not a))
    (cond (tag == 4) (Some (And a b))
    (cond (tag == 5) (Some (Or a b))
    (cond (tag == 6) (shaped (a == 0 && b == 0) Empty)
    (cond (tag == 7) (shaped (nat_lt a 256 && b == 0) (Set a))
    (cond (tag == 8) (shaped (nat_lt a 256 && b == 0) (Clear a))
    (cond (tag == 9) (Some (Both a b))
    (cond (tag == 10) (Some (When a b)) None))))))))))

-- what an entry of five bytes writes: the tag, and the operands of two bytes each, the lowest first
abbrev pub entry_in : List ℕ → Option Node
entry_in bs = decoded (slice_index bs 0) (slice_index bs 1 + slice_index bs 2 * 256) (slice_index bs 3 + slice_index bs 4 * 256)

-- the same, with an error where it writes no node
abbrev pub written : List ℕ → Result Node NoNode
written bs = ok_or (entry_in bs) (record {})
