-- Where the reading of a text is, as the definitions see it.
use Rattle.std.specs.Prelude.{◌≡◌}
use Rattle.wfc_problem.specs.Network.{Network}
use Rattle.wfc_proof.specs.declared.heads.Shape.{Shape}
use Rattle.wfc_check.specs.Checker.{checker_problem, point_of}
use Rattle.wfc_check.specs.Text.{TextPlace, staged_place, at_start}
use Rattle.wfc_check.specs.declared.reading.Reading.{Reading}

-- its place
abbrev pub reading_place : Reading → TextPlace
reading_place reading = staged_place reading.stage (point_of reading.checker)

-- what a text is held to
abbrev pub reads_for : Reading → Network × Shape
reads_for reading = (checker_problem reading.checker, reading.shape.now)

-- the reading is at the start of a text
pub record IsOpenedFor (P : Network) (shape : Shape) (reading : Reading) : Type 0 where
  pub holds : reads_for reading ≡ (P, shape)
  pub start : reading_place reading ≡ at_start P
  pub first : reading.number ≡ 1
