-- Cubes of states: a state is a number, and variable v is its digit v.
use Rattle.std.specs.Prelude.{◌≡◌, ℕ, ◌-◌, ◌^◌, ◌<◌, Bool, cond, not, ◌&&◌, ◌==◌, bit_and, bit_or, count_ones, nat_lt}
use Rattle.logic.specs.declared.truth.Truth.{Truth}
use Rattle.logic.specs.declared.truth.Truth.TheVariants.{Open}
use Rattle.logic.specs.Bit.{bit}
use Rattle.logic.specs.Kleene.{not3, and3, or3, given, sure, settled}
use Rattle.logic.specs.Words.{word}

-- of `width` variables those that `known` has are known, with the values that `value` has
pub record PartialState : Type 0 where
  pub width : ℕ
  pub known : ℕ
  pub value : ℕ

abbrev pub cube_of : ℕ → ℕ → ℕ → PartialState
cube_of w k v = record { width = w; known = k; value = v }

-- no variable from the width up is known, and no value bit stands outside the known bits
pub record Fine (c : PartialState) : Type 0 where
  pub inside : c.known < 2 ^ c.width
  pub part : bit_and c.value c.known ≡ c.value

-- all states of a width
abbrev pub whole : ℕ → PartialState
whole w = cube_of w 0 0

-- the one state s of a width
abbrev pub single : ℕ → ℕ → PartialState
single w s = cube_of w (2 ^ w - 1) s

-- the truth of variable v: what is not known is open
abbrev pub seen : ℕ → ℕ → ℕ → Truth
seen known value v = cond (bit v known) (given (bit v value)) Open

abbrev pub truth : PartialState → ℕ → Truth
truth c = seen c.known c.value

-- v is a variable of the width that is not known
abbrev pub is_free : PartialState → ℕ → Bool
is_free c v = nat_lt v c.width && not (bit v c.known)

abbrev pub free_count : PartialState → ℕ
free_count c = c.width - count_ones c.known

-- the state s agrees with the cube's values on its known bits
abbrev pub holds_state : PartialState → ℕ → Bool
holds_state c s = bit_and s c.known == c.value

abbrev pub Holds : PartialState → ℕ → Type 0
Holds c s = bit_and s c.known ≡ c.value

-- s is a state of the cube
pub record In (c : PartialState) (s : ℕ) : Type 0 where
  pub below : s < 2 ^ c.width
  pub agrees : Holds c s

-- the half where v is false, and the half where it is true
abbrev pub lower : PartialState → ℕ → PartialState
lower c v = cube_of c.width (bit_or c.known (2 ^ v)) c.value

abbrev pub upper : PartialState → ℕ → PartialState
upper c v = cube_of c.width (bit_or c.known (2 ^ v)) (bit_or c.value (2 ^ v))

-- the cube of width w in which each variable v has the truth f v
abbrev pub cube_from : ℕ → (ℕ → Truth) → PartialState
cube_from w f = cube_of w (word w (λ v. settled (f v))) (word w (λ v. sure (f v)))

-- v is free, and every other variable as it was
abbrev pub freed : PartialState → ℕ → PartialState
freed c v = cube_from c.width (λ u. cond (u == v) Open (truth c u))

-- each variable v is set, or true before and not cleared, where s v is the truth of its being set and k v of its being cleared
abbrev pub changed : PartialState → (ℕ → Truth) → (ℕ → Truth) → PartialState
changed c s k = cube_from c.width (λ v. or3 (s v) (and3 (truth c v) (not3 (k v))))
