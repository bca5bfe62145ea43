-- What the readers of a script's words answer.
use Rattle.std.specs.Prelude.{◌≡◌, ℕ, List, ◌++◌, Some, None, Ok, Err, vec_items, codes, Result}
use Rattle.script.specs.declared.fault.ScriptFault.{ScriptFault}
use Rattle.script.specs.declared.fault.ScriptFault.TheVariants as faults
use Rattle.script.specs.declared.paper.PaperWord.{PaperWord}
use Rattle.script.specs.declared.paper.PaperWord.TheVariants.{Path, Bytes}
use Rattle.script.specs.Hex.{bytes_of}

-- the digits stand after `hex:` in the word
abbrev pub Hex : List ℕ → List ℕ → Type 0
Hex word digits = word ≡ codes "hex:" ++ digits

-- a word that begins with `hex:` is the paper of its digits, or a fault where they write no bytes; any other is a path
abbrev pub PaperRead : List ℕ → Result PaperWord ScriptFault → Type 0
PaperRead word (Ok (Path path)) = (path.now ≡ word) × ((digits : List ℕ) → Hex word digits → ⊥)
PaperRead word (Ok (Bytes bytes)) = (digits : List ℕ) × Hex word digits × (bytes_of digits ≡ Some (vec_items bytes))
PaperRead word (Err faults.NoMemory) = Unit {0}
PaperRead word (Err (faults.BadHex shown)) = (shown.now ≡ word) × (digits : List ℕ) × Hex word digits × (bytes_of digits ≡ None)
PaperRead word (Err (faults.UnknownCommand shown)) = ⊥
PaperRead word (Err (faults.WrongWords usage)) = ⊥
PaperRead word (Err (faults.UnknownKind shown)) = ⊥
PaperRead word (Err (faults.UnknownSet shown)) = ⊥
PaperRead word (Err faults.DeepSet) = ⊥
PaperRead word (Err (faults.NoNumber shown)) = ⊥
