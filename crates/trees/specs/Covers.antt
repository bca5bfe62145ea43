-- What lawful trees show: each state lies in a settled cube.
use Rattle.std.specs.Prelude.{◌≡◌, ℕ, ◌<◌, Bool, true}
use Rattle.logic.specs.Partial.{PartialState, Fine, In}

-- s is a state of a cube of its width that is settled
pub record Settled (settled : PartialState → Bool) (width s : ℕ) : Type 0 where
  pub cube : PartialState
  pub wide : cube.width ≡ width
  pub fine : Fine cube
  pub state : In cube s
  pub good : settled cube ≡ true

-- each rule below `count` settles a cube around each state of c
abbrev pub EachCovers : (ℕ → PartialState → Bool) → PartialState → ℕ → Type 0
EachCovers settles c count = (i : ℕ) → i < count → (s : ℕ) → In c s → Settled (settles i) c.width s
