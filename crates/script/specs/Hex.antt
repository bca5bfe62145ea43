-- Bytes written as hexadecimal digits.
use Rattle.std.specs.Prelude.{ℕ, ◌+◌, ◌-◌, ◌*◌, Bool, cond, ◌&&◌, List, [], ◌∷◌, ◌++◌, Some, None, Option, nat_le}

-- the byte lies from one to another, both among them
abbrev pub within : ℕ → ℕ → ℕ → Bool
within low high byte = nat_le low byte && nat_le byte high

-- the value of a hexadecimal digit, upper or lower case
abbrev pub digit_of : ℕ → Option ℕ
digit_of byte =
    cond (within 48 57 byte) (Some (byte - 48))
    (cond (within 97 102 byte) (Some (byte - 87)) (cond (within 65 70 byte) (Some (byte - 55)) None))

-- the byte of two digits' values, the higher first
abbrev pub joint : Option ℕ → Option ℕ → Option ℕ
joint None low = None
joint (Some high) None = None
joint (Some high) (Some low) = Some (high * 16 + low)

-- the byte that two digits write
abbrev pub byte_of : ℕ → ℕ → Option ℕ
byte_of high low = joint (digit_of high) (digit_of low)

-- some bytes before others
abbrev pub before : List ℕ → Option (List ℕ) → Option (List ℕ)
before bytes None = None
before bytes (Some more) = Some (bytes ++ more)

-- a byte before others
abbrev pub first : Option ℕ → Option (List ℕ) → Option (List ℕ)
first None more = None
first (Some byte) more = before (byte ∷ []) more

-- the bytes that digits write, two digits for each
abbrev pub bytes_of : List ℕ → Option (List ℕ)
bytes_of [] = Some []
bytes_of (odd ∷ []) = None
bytes_of (high ∷ (low ∷ rest)) = first (byte_of high low) (bytes_of rest)
