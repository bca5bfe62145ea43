-- What a paper of one record is, as it is written.
use Rattle.std.specs.Prelude.{◌≡◌, ℕ, zero, suc, ◌/◌, ◌%◌, ◌≤◌, List, [], ◌∷◌, ◌++◌, length, Ok, Result}
use Rattle.records.specs.declared.PaperKind.{PaperKind}
use Rattle.records.specs.declared.RecordFault.{RecordFault}
use Rattle.records.specs.Kinds.{code_of, entry_of}

-- a number as so many bytes, the lowest first
abbrev pub little_endian : ℕ → ℕ → List ℕ
little_endian zero n = []
little_endian (suc k) n = n % 256 ∷ little_endian k (n / 256)

-- the head of a record: the length of its body in four bytes, and its kind in two
abbrev pub head_of : ℕ → ℕ → List ℕ
head_of size kind = little_endian 4 size ++ little_endian 2 kind

-- The paper holds this body: it is one record of this kind, with whole entries, and is not too long.
pub record Holds (kind : PaperKind) (body paper : List ℕ) : Type 0 where
  pub short : length paper ≤ 65536
  pub written : paper ≡ head_of (length body) (code_of kind) ++ body
  pub entries : length body % entry_of kind ≡ 0

-- The answer is a body exactly when the paper holds it.
pub record Exact (kind : PaperKind) (paper : List ℕ) (answer : Result (List ℕ) RecordFault) : Type 0 where
  pub accepted : (body : List ℕ) → answer ≡ Ok body → Holds kind body paper
  pub every : (body : List ℕ) → Holds kind body paper → answer ≡ Ok body
