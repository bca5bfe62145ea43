-- How an entry of a decision diagram is written.
use Rattle.std.specs.Prelude.{ℕ, ◌+◌, ◌-◌, ◌*◌, cond, List, ◌==◌, slice_index}
use Rattle.setpapers.specs.declared.entry.Child.{Child}
use Rattle.setpapers.specs.declared.entry.Child.TheVariants.{Outside, Inside, Entry as EntryAt}
use Rattle.setpapers.specs.declared.entry.Entry.{Entry}

-- what a child's number stands for: 0 is outside, 1 is inside, and j + 2 is the entry j
abbrev pub child_of : ℕ → Child
child_of n = cond (n == 0) Outside (cond (n == 1) Inside (EntryAt (n - 2)))

-- the entry that five bytes write: the variable, and the children's numbers of two bytes each, the lowest first
abbrev pub entry_of : List ℕ → Entry
entry_of xs = record {
  variable = slice_index xs 0;
  low = child_of (slice_index xs 1 + slice_index xs 2 * 256);
  high = child_of (slice_index xs 3 + slice_index xs 4 * 256);
}
