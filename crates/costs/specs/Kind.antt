-- What a kind of cost is.
use Rattle.std.specs.Prelude.{◌≡◌, ℕ, Bool, true, ◌⊎◌, Option}

-- A kind of cost: the cost of nothing, of an operator by its minutes and crew, of two costs together
-- (none where that is refused), and whether one cost is at most another.
pub record Kind (C : Type 0) : Type 0 where
  pub zero : C
  pub one : ℕ → ℕ → C
  pub join : C → C → Option C
  pub le : C → C → Bool

-- The order is total: any two costs are comparable, it is transitive, and two costs each at most the other are the same.
pub record Ordered {C : Type 0} (K : Kind C) : Type 0 where
  pub total : (a b : C) → (K.le a b ≡ true) ⊎ (K.le b a ≡ true)
  pub trans : (a b c : C) → K.le a b ≡ true → K.le b c ≡ true → K.le a c ≡ true
  pub antisym : (a b : C) → K.le a b ≡ true → K.le b a ≡ true → a ≡ b
