-- A cube of the code as a partial state.
use Rattle.logic.specs.declared.cube.Cube.{Cube}
use Rattle.logic.specs.Partial.{PartialState, Fine, cube_of}

abbrev pub partial : Cube → PartialState
partial c = cube_of c.width c.known c.value

pub fine : (c : Cube) → Fine (partial c)
fine c = record { inside = c.within; part = c.part }
