-- Small values without symmetry, on which laws try the definitions.
use Rattle.std.specs.Prelude.{true, false, [], ◌∷◌}
use Rattle.wfc_log.specs.declared.Cause.TheVariants.{Assumed, Arc}
use Rattle.wfc_log.specs.declared.Removal.{Removal}
use Rattle.wfc_log.specs.Domains.{Flags}

-- value 0 at cell 0, values 1 and 2 at cell 1
abbrev pub two_rows : Flags
two_rows = record { cells = 2; values = 3; flags = true ∷ false ∷ false ∷ false ∷ true ∷ true ∷ [] }

-- the base value of the corner that has no support above it
abbrev pub unsupported_removal : Removal
unsupported_removal = record { cell = 2; value = 1; before = 3; cause = Arc 3 }

-- what `Is 0 1` cuts there
abbrev pub cut_first : Removal
cut_first = record { cell = 0; value = 0; before = 2; cause = Assumed }

-- what `Not 3 2` cuts there
abbrev pub later : Removal
later = record { cell = 3; value = 2; before = 2; cause = Assumed }
