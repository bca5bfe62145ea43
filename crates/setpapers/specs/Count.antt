-- How many states of a width pass a test, and how many entries of a row.
use Rattle.std.specs.Prelude.{ℕ, zero, suc, ◌+◌, ◌*◌, ◌^◌, Bool, true, false, ◌&&◌, ◌||◌, ◌==◌, bit_and, nat_lt}
use Rattle.logic.specs.Words.{digit}
use Rattle.setpapers.specs.Rows.{all}

-- how many of the numbers below 2 ^ w pass p: the even ones, and the odd ones
unfoldable pub card : ℕ → (ℕ → Bool) → ℕ
card zero p = digit (p 0)
card (suc w) p = card w (λ x. p (x * 2)) + card w (λ x. p (x * 2 + 1))

-- x agrees with the value v on the bits k
abbrev pub meets : ℕ → ℕ → ℕ → Bool
meets k v x = bit_and x k == v

-- ---- the first n entries of a row e

-- how many of them pass p
unfoldable pub tally : (ℕ → Bool) → (ℕ → ℕ) → ℕ → ℕ
tally p e zero = 0
tally p e (suc n) = tally p e n + digit (p (e n))

-- x is one of them
unfoldable pub listed : (ℕ → ℕ) → ℕ → ℕ → Bool
listed e zero x = false
listed e (suc n) x = e n == x || listed e n x

-- the one at n is above the one before it
abbrev pub above : (ℕ → ℕ) → ℕ → Bool
above e zero = true
above e (suc n) = nat_lt (e n) (e (suc n))

-- the one at n is a state of width w, above the one before it
abbrev pub rises : ℕ → (ℕ → ℕ) → ℕ → Bool
rises w e n = nat_lt (e n) (2 ^ w) && above e n

-- each is
abbrev pub rising : ℕ → (ℕ → ℕ) → ℕ → Bool
rising w e n = all (rises w e) n
