-- Small values without symmetry, on which laws try the definitions.
use Rattle.std.specs.Prelude.{ℕ, [], ◌∷◌, replicate}
use Rattle.std.specs.List.{range_with_len}
use Rattle.wfc_problem.specs.Corner.{corner}
use Rattle.wfc_problem.specs.declared.Literal.TheVariants.{Is, Not}
use Rattle.wfc_log.specs.declared.Cause.TheVariants.{Assumed, Arc}
use Rattle.wfc_log.specs.declared.Removal.{Removal}
use Rattle.wfc_log.specs.declared.Verdict.TheVariants.{Alive}
use Rattle.wfc_domains.specs.Counters.{Table}
use Rattle.wfc_domains.specs.Store.{StoreView}
use Rattle.wfc_log.specs.Sample.{cut_first, later, unsupported_removal}

-- two cells, three values and four directions, with counts from 100 on
abbrev pub numbered_table : Table
numbered_table = record { cells = 2; values = 3; dirs = 4; limit = 127; counts = range_with_len 100 24 }

-- value 1 at cell 2 of the corner goes for want of support above it, and tells a value too few
abbrev pub undersized_removal : Removal
undersized_removal = record { cell = 2; value = 1; before = 2; cause = Arc 3 }

-- value 1 at cell 3, for the same cause
abbrev pub displaced_removal : Removal
displaced_removal = record { cell = 3; value = 1; before = 3; cause = Arc 3 }

-- what `Not 0 1` cuts behind the first: the last value of its cell
abbrev pub cut_second : Removal
cut_second = record { cell = 0; value = 1; before = 1; cause = Assumed }

-- a store of the corner after an opening and two levels
abbrev pub two_levels : StoreView
two_levels = record {
  problem = corner;
  standing = Is 1 0 ∷ Not 2 3 ∷ [];
  spare = 4;
  removals = unsupported_removal ∷ cut_first ∷ later ∷ [];
  marks = 1 ∷ 2 ∷ [];
  verdict = Alive;
}

-- it before the second level
abbrev pub one_level : StoreView
one_level = record {
  problem = corner;
  standing = Is 1 0 ∷ [];
  spare = 5;
  removals = unsupported_removal ∷ cut_first ∷ [];
  marks = 1 ∷ [];
  verdict = Alive;
}

-- a store of the corner whose one level began behind a removal, and has so many
abbrev pub repeated_level : ℕ → StoreView
repeated_level n = record one_level { removals = later ∷ replicate n cut_first }
