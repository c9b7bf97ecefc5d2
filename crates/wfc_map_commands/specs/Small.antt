-- What `fill` comes to with one chooser, the steps of a file, and tile sets with a fault.
use Rattle.std.specs.Prelude.{Err, List, None, Ok, Option, Result, Some, [], codes, ℕ, ◌∷◌, ◌≡◌}
use Rattle.wfc_choose.specs.declared.RuleKind.TheVariants.{Fewest}
use Rattle.wfc_map_commands.specs.FillTask.{FillTask, fill_plan}
use Rattle.wfc_outside.specs.Folder.{File, file_of}
use Rattle.wfc_pins.specs.declared.steps.Step.{Step}
use Rattle.wfc_pins.specs.declared.steps.Step.TheVariants.{Assume, Undo}
use Rattle.wfc_pins.specs.declared.steps.StepLine.{StepLine}
use Rattle.wfc_plan.specs.Files.{IsFile}
use Rattle.wfc_plan.specs.Plan.{outcome}
use Rattle.wfc_plan.specs.declared.fault.Fault.{Fault}
use Rattle.wfc_problem.specs.declared.Literal.TheVariants.{Is, Not}
use Rattle.wfc_render.specs.declared.form.Form.TheVariants.{P6}
use Rattle.wfc_task.specs.Small.{AreBeside, IsLaid, tiles_asked}
use Rattle.wfc_task.specs.TileGiven.{IsTileSetOf}
use Rattle.wfc_tileset.specs.Document.{set_of, set_with}
use Rattle.wfc_tileset.specs.Tiles.{TileSetView, TileView}
use Rattle.wfc_tileset.specs.declared.tile.Pair.{Pair}
use Rattle.wfc_words.specs.RequestView.{RequestView}

-- what `fill` comes to with one chooser
abbrev pub fill_outcome : RequestView → List File → Result FillTask Fault
fill_outcome asked files = outcome (fill_plan (Fewest ∷ []) asked) files

-- a step, and the number of the line of a steps file that says it
abbrev pub step_line : ℕ → Step → StepLine
step_line line step = record { line = line; step = step }

-- two assumptions, and an undo
abbrev pub two_and_undo : List StepLine
two_and_undo = step_line 1 (Assume (Is 0 0)) ∷ step_line 2 (Assume (Not 1 2)) ∷ step_line 5 Undo ∷ []

-- over any files of a tile set, with these pins or none and no mask, `fill` has this fault
abbrev pub HasTilesFault : Option (List ℕ) → Fault → Type 0
HasTilesFault pins fault =
    (files : List File) (set : TileSetView) → IsLaid tiles_asked files set → AreBeside files pins
    → fill_outcome tiles_asked files ≡ Err fault

-- a map of a tile set in the form P6, which no tile set without pictures has
abbrev pub pictured_asked : RequestView
pictured_asked = record tiles_asked { form = Some P6 }

-- over any files of a tile set of whose tiles none has a picture, with these pins or none and no mask, `fill` of it has this fault
abbrev pub HasPlainFault : Option (List ℕ) → Fault → Type 0
HasPlainFault pins fault =
    (files : List File) (set : TileSetView) → IsTileSetOf pictured_asked files set → set.pictures ≡ []
    → AreBeside files pins → fill_outcome pictured_asked files ≡ Err fault

-- the file `a` spells a tile set whose first tile has the picture `t`, which isn't there
pub record LacksPicture (files : List File) : Type 0 where
  pub bytes : List ℕ
  pub file : IsFile files (codes "a") bytes
  pub first : TileView
  pub others : List TileView
  pub pairs : List Pair
  pub spelled : set_of bytes ≡ Ok (set_with (first ∷ others) pairs)
  pub named : first.picture ≡ Some (codes "t")
  pub lacking : file_of files (codes "t") ≡ None
