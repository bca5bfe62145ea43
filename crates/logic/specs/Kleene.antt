-- Kleene's strong logic of three values.
use Rattle.std.specs.Prelude.{Bool, true, false}
use Rattle.logic.specs.declared.truth.Truth.{Truth}
use Rattle.logic.specs.declared.truth.Truth.TheVariants.{True, False, Open}

abbrev pub not3 : Truth → Truth
not3 True = False
not3 False = True
not3 Open = Open

abbrev pub and3 : Truth → Truth → Truth
and3 True b = b
and3 False b = False
and3 Open True = Open
and3 Open False = False
and3 Open Open = Open

abbrev pub or3 : Truth → Truth → Truth
or3 True b = True
or3 False b = b
or3 Open True = True
or3 Open False = Open
or3 Open Open = Open

-- the truth of what has a value
abbrev pub given : Bool → Truth
given true = True
given false = False

-- it is true for certain
abbrev pub sure : Truth → Bool
sure True = true
sure False = false
sure Open = false

-- it may be true
abbrev pub maybe : Truth → Bool
maybe True = true
maybe False = false
maybe Open = true

-- it is not open
abbrev pub settled : Truth → Bool
settled True = true
settled False = true
settled Open = false

-- it is false for certain
abbrev pub refuted : Truth → Bool
refuted True = false
refuted False = true
refuted Open = false
