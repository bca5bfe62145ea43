-- The binary digits of a number.
use Rattle.std.specs.Prelude.{ℕ, ◌/◌, ◌%◌, ◌^◌, Bool, ◌==◌}

-- whether the digit of weight 2 ^ v is set
unfoldable pub bit : ℕ → ℕ → Bool
bit v n = n / 2 ^ v % 2 == 1
