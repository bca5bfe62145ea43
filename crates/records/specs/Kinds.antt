-- The papers that are one record: the number of their kind, and the size of an entry of their body.
use Rattle.std.specs.Prelude.{ℕ}
use Rattle.records.specs.declared.PaperKind.{PaperKind}
use Rattle.records.specs.declared.PaperKind.TheVariants.{Plan, List, Diagram, Formula, Proof}

-- the number in the record's head
abbrev pub code_of : PaperKind → ℕ
code_of Plan = 5
code_of List = 6
code_of Diagram = 7
code_of Formula = 8
code_of Proof = 9

-- the bytes of one entry: an operator number, a state, a diagram entry, a node, a byte of a tree
abbrev pub entry_of : PaperKind → ℕ
entry_of Plan = 2
entry_of List = 8
entry_of Diagram = 5
entry_of Formula = 5
entry_of Proof = 1
