-- An entry of a diagram is tested after those before it.
use Rattle.std.proofs.Common.{◌≡◌, ℕ, ◌<◌, Bool, true, false, ◌&&◌, ltb, List, [], length, get_or, refl, ap, ap₂, ◌∙◌}
use Rattle.std.proofs.lemmas.Bool.{ltb-true}
use Rattle.setpapers.specs.declared.entry.Child.{Child}
use Rattle.setpapers.specs.declared.entry.Child.TheVariants.{Outside, Inside, Entry as EntryAt}
use Rattle.setpapers.specs.declared.entry.Entry.{Entry}
use Rattle.setpapers.specs.Diagrams.{entries, entry_at, lawful_child, lawful}
use Rattle.setpapers.specs.Entries.{entry_of}
use Rattle.setpapers.specs.Following.{Follows}
use Rattle.setpapers.specs.Tabled.{bytes_at, length_table, get_or_table}
use Rattle.setpapers.proofs.Chunks.{entry_bytes}

-- a second test that is the same where the first passes
and_same : (b x y : Bool) → (b ≡ true → x ≡ y) → (b && x) ≡ (b && y)
and_same true x y h = h refl
and_same false x y h = refl

-- the entries of the rows
abbrev pub entry_in_rows : List (List ℕ) → ℕ → Entry
entry_in_rows rows j = entry_of (get_or rows j [])

module _ (bs : List ℕ) (i : ℕ) (before : List (List ℕ)) (bytes : List ℕ) (f : Follows (bytes_at 5 bs) (entries bs) i before bytes) where
  count_before : length before ≡ i
  count_before = ap length f.firsts ∙ length_table (bytes_at 5 bs) i

  entry_before : (j : ℕ) → j < i → entry_in_rows before j ≡ entry_at bs j
  entry_before j h = ap entry_of (ap (λ xs. get_or xs j []) f.firsts ∙ get_or_table (bytes_at 5 bs) i j [] h) ∙ entry_bytes bs j

  child_tested : (v : ℕ) (c : Child) → lawful_child (entry_in_rows before) (length before) v c ≡ lawful_child (entry_at bs) i v c
  child_tested v Outside = refl
  child_tested v Inside = refl
  child_tested v (EntryAt j) =
      ap (λ n. ltb j n && ltb v (entry_in_rows before j).variable) count_before
      ∙ and_same (ltb j i) (ltb v (entry_in_rows before j).variable) (ltb v (entry_at bs j).variable) (λ h. ap (λ (e : Entry). ltb v e.variable) (entry_before j (ltb-true j i h)))

  pub entry_tested : (w : ℕ) (e : Entry) → e ≡ entry_of bytes
      → (ltb e.variable w && (lawful_child (entry_in_rows before) (length before) e.variable e.low && lawful_child (entry_in_rows before) (length before) e.variable e.high)) ≡ lawful w (entry_at bs) i
  entry_tested w e is =
      ap (λ (x : Entry). ltb x.variable w && (lawful_child (entry_in_rows before) (length before) x.variable x.low && lawful_child (entry_in_rows before) (length before) x.variable x.high)) (is ∙ ap entry_of f.here ∙ entry_bytes bs i)
      ∙ ap₂ (λ a b. ltb (entry_at bs i).variable w && (a && b)) (child_tested (entry_at bs i).variable (entry_at bs i).low) (child_tested (entry_at bs i).variable (entry_at bs i).high)
