-- What an accepted proof shows.
use Rattle.std.specs.Prelude.{◌≡◌, ℕ, Bool, true}
use Rattle.planning.specs.Model.{Model}
use Rattle.planning.specs.Leads.{Reachable, Unsolvable}

-- every reachable state is in the set, and no sequence of operators, of whatever length, leads to the goal
pub record Shows (m : Model) (has : ℕ → Bool) : Type 0 where
  pub reached : (s : ℕ) → Reachable m s → has s ≡ true
  pub unsolvable : Unsolvable m
