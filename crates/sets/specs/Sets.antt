-- What a set of states is: a width, states of that width, and an answer to each cube.
use Rattle.std.specs.Prelude.{◌≡◌, ℕ, ◌-◌, ◌^◌, ◌<◌, Bool, true, false, cond, not, ◌&&◌, ◌||◌, ◌==◌, ◌≢◌, nat_lt}
use Rattle.logic.specs.Partial.{PartialState, Fine, In}
use Rattle.logic.specs.Kleene.{not3, and3, or3}
use Rattle.logic.specs.declared.truth.Truth.{Truth}
use Rattle.logic.specs.declared.truth.Truth.TheVariants.{True as Inside, False as Outside, Open}

-- no variable of the cube is free
abbrev pub Total : PartialState → Type 0
Total c = c.known ≡ 2 ^ c.width - 1

-- what an answer claims of a cube of the set's width
abbrev pub Claims : Truth → (ℕ → Bool) → PartialState → Type 0
Claims Inside has c = (x : ℕ) → In c x → has x ≡ true
Claims Outside has c = (x : ℕ) → In c x → has x ≡ false
Claims Open has c = Total c → ⊥

-- a set's width, its states and its answers belong together
pub record Laws (wide : ℕ) (has : ℕ → Bool) (answer : PartialState → Truth) : Type 0 where
  pub within : (x : ℕ) → has x ≡ true → x < 2 ^ wide
  pub holds : (c : PartialState) → Fine c → c.width ≡ wide → Claims (answer c) has c
  pub other : (c : PartialState) → (c.width ≢ wide) → answer c ≡ Outside

-- the answer a of a set of width w: a cube of another width is outside
abbrev pub at_width : ℕ → PartialState → Truth → Truth
at_width w c a = cond (c.width == w) a Outside

-- ---- the layers over parts of the widths v and w: a second part of another width has no state of width v

-- the states of width v that f has not
abbrev pub not_has : ℕ → (ℕ → Bool) → ℕ → Bool
not_has v f x = nat_lt x (2 ^ v) && not (f x)

-- the states of a layer that joins, for each state, whether either part has it
abbrev pub joined_have : (Bool → Bool → Bool) → ℕ → (ℕ → Bool) → ℕ → (ℕ → Bool) → ℕ → Bool
joined_have state v f w g x = state (f x) (v == w && g x)

-- the states that both have
abbrev pub both_have : ℕ → (ℕ → Bool) → ℕ → (ℕ → Bool) → ℕ → Bool
both_have = joined_have (λ a b. a && b)

-- the states that either has
abbrev pub either_has : ℕ → (ℕ → Bool) → ℕ → (ℕ → Bool) → ℕ → Bool
either_has = joined_have (λ a b. a || b)

-- the answer of the complement
abbrev pub not_answer : ℕ → (PartialState → Truth) → PartialState → Truth
not_answer v a c = at_width v c (not3 (a c))

-- the answer of a layer that joins the parts' answers
abbrev pub joined_answer : (Truth → Truth → Truth) → ℕ → (PartialState → Truth) → (PartialState → Truth) → PartialState → Truth
joined_answer answer v a b c = at_width v c (answer (a c) (b c))

-- the answer of the meeting
abbrev pub both_answer : ℕ → (PartialState → Truth) → (PartialState → Truth) → PartialState → Truth
both_answer = joined_answer and3

-- the answer of the joining
abbrev pub either_answer : ℕ → (PartialState → Truth) → (PartialState → Truth) → PartialState → Truth
either_answer = joined_answer or3
