-- How a pair of costs is printed.
use Rattle.std.specs.Prelude.{ℕ, List, Some, codes, Option}
use Rattle.std.specs.Fmt.{option_append}

-- the first part, a comma, and the second part, where it is known what each writes
abbrev pub parted : Option (List ℕ) → Option (List ℕ) → Option (List ℕ)
parted first second = option_append first (option_append (Some (codes ",")) second)
