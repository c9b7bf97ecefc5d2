-- The stages of a sample and of its problem, each with the faults that it may have, over files that are told.
use Rattle.std.specs.Prelude.{Bool, List, None, Ok, Option, Some, false, true, ℕ, ◌<◌, ◌≡◌, ◌⊎◌}
use Rattle.wfc_grid.specs.Reading.{grid_of}
use Rattle.wfc_model.specs.Raster.{Raster}
use Rattle.wfc_outside.specs.Folder.{File}
use Rattle.wfc_overlap.specs.Bridge.{window_pair_count}
use Rattle.wfc_overlap.specs.Built.{picture_pins, texts_of}
use Rattle.wfc_pattern.specs.Learning.{patterns_of}
use Rattle.wfc_picture.specs.Palette.{picture_and_palette}
use Rattle.wfc_picture.specs.declared.symbol.Symbol.{Symbol}
use Rattle.wfc_pins.specs.PinView.{PinView}
use Rattle.wfc_pins.specs.Pins.{pins_of}
use Rattle.wfc_pins.specs.declared.fault.BuildFault.TheVariants.{SizeBelowN, TooLarge}
use Rattle.wfc_plan.specs.Files.{IsFile}
use Rattle.wfc_plan.specs.Stages.{IsRefusal, TaskStage}
use Rattle.wfc_plan.specs.declared.fault.Fault.{Fault}
use Rattle.wfc_plan.specs.declared.fault.Fault.TheVariants.{Refused}
use Rattle.wfc_plan.specs.declared.fault.Refusal.TheVariants as refusals
use Rattle.wfc_plan.specs.declared.fault.Source.TheVariants.{Sample}
use Rattle.wfc_ppm.specs.Reading.{ppm_of}
use Rattle.wfc_problem.specs.declared.TheConstants.{MAX_PAIRS}
use Rattle.wfc_render.specs.Layout.{layout_of}
use Rattle.wfc_task.specs.Given.{HoldsPins, IsSample, IsSampleFile}
use Rattle.wfc_task.specs.Maps.{asked_output}
use Rattle.wfc_task.specs.Sampled.{SampledView}
use Rattle.wfc_task.specs.Sources.{window_side_of}
use Rattle.wfc_tileset.specs.Document.{is_ppm_name}
use Rattle.wfc_task.specs.declared.lesson.Taught.{Taught}
use Rattle.wfc_words.specs.RequestView.{RequestView}

-- ---- samples

-- the bytes are no picture of colours, or no grid
abbrev pub IsShownFault : Bool → List ℕ → TaskStage
IsShownFault true bytes = IsRefusal (refusals.Ppm Sample) (ppm_of bytes)
IsShownFault false bytes = IsRefusal (refusals.Grid Sample) (grid_of bytes)

-- the bytes of the sample's file are at fault in the form that its name tells
abbrev pub IsFormFault : RequestView → List File → TaskStage
IsFormFault asked files fault =
    (bytes : List ℕ) × IsFile files asked.file bytes
    × IsShownFault (is_ppm_name asked.file) bytes fault

-- the sample shows too many symbols
abbrev pub IsSymbolsFault : RequestView → List File → TaskStage
IsSymbolsFault asked files fault =
    (sampled : SampledView) × IsSampleFile files asked.file sampled
    × IsRefusal refusals.Colours (picture_and_palette sampled.symbols sampled.width) fault

-- the file shows a picture of these numbers, which have this palette
pub record IsReadPicture (asked : RequestView) (files : List File) (made : Raster × List Symbol)
    : Type 0 where
  pub sampled : SampledView
  pub file : IsSampleFile files asked.file sampled
  pub numbered : picture_and_palette sampled.symbols sampled.width ≡ Ok made

-- nothing can be learned of the sample
abbrev pub IsLearnFault : RequestView → List File → TaskStage
IsLearnFault asked files fault =
    (made : Raster × List Symbol) × IsReadPicture asked files made
    × IsRefusal refusals.Learn
    (patterns_of made.0 (window_side_of asked.source) asked.symmetry asked.wrap_in) fault

-- the sample teaches this
abbrev pub Teaches : RequestView → List File → Taught → Type 0
Teaches asked files lesson = IsSample asked files lesson.kind lesson.patterns lesson.palette

-- a map of what was learned has no layout
abbrev pub IsLayoutFault : RequestView → List File → TaskStage
IsLayoutFault asked files fault =
    (lesson : Taught) × Teaches asked files lesson
    × IsRefusal refusals.Render (layout_of lesson.kind asked.form asked.width asked.height 1) fault

-- ---- pins

-- a line of the pins file is none of pins; there is no fault where no file is named
abbrev pub IsPinsFault : List File → Option (List ℕ) → TaskStage
IsPinsFault files None fault = ⊥
IsPinsFault files (Some name) fault =
    (bytes : List ℕ) × IsFile files name bytes × IsRefusal refusals.Pins (pins_of bytes) fault

-- ---- problems of samples

-- a side of the map is below that of a window
pub record IsBelowFault (asked : RequestView) (side : ℕ) (fault : Fault) : Type 0 where
  pub below : (asked.width < side) ⊎ (asked.height < side)
  pub is : fault ≡ Refused (refusals.Build SizeBelowN)

-- a side of the map is below that of the windows that the sample teaches
abbrev pub IsSizeFault : RequestView → List File → TaskStage
IsSizeFault asked files fault =
    (lesson : Taught) × Teaches asked files lesson × IsBelowFault asked lesson.patterns.n fault

-- the count of pairs is over the limit, and the fault says it
pub record IsCountFault (count : ℕ) (fault : Fault) : Type 0 where
  pub many : MAX_PAIRS < count
  pub is : fault ≡ Refused (refusals.Build (TooLarge count))

-- there are too many pairs of a place and a pattern
abbrev pub IsPairsFault : RequestView → List File → TaskStage
IsPairsFault asked files fault =
    (lesson : Taught) × Teaches asked files lesson
    × IsCountFault (window_pair_count lesson.patterns (asked_output asked)) fault

-- a line of pins lies outside of the map, or means none of what was learned
abbrev pub IsPinFault : RequestView → List File → TaskStage
IsPinFault asked files fault =
    (lesson : Taught) × Teaches asked files lesson
    × ((lines : List PinView) × HoldsPins files asked.pins lines
    × IsRefusal refusals.Build
    (picture_pins (texts_of lesson.palette) asked.width asked.height lines) fault)
