-- A plan of two files with its order, folders, and a refusal of each kind of step, that the laws speak of.
use Rattle.std.specs.Prelude.{List, Some, [], ℕ, ◌∷◌, ◌≡◌}
use Rattle.wfc_box.specs.declared.fault.StackFault.TheVariants as stacks
use Rattle.wfc_grid.specs.declared.reading.GridFault.TheVariants as grids
use Rattle.wfc_outside.specs.Folder.{File, FolderView}
use Rattle.wfc_outside.specs.declared.whole.ReadFault.TheVariants.{Missing}
use Rattle.wfc_pattern.specs.declared.learning.LearnFault.{LearnFault}
use Rattle.wfc_pattern.specs.declared.learning.LearnFault.TheVariants as learning
use Rattle.wfc_picture.specs.declared.palette.PaletteFault.TheVariants as palettes
use Rattle.wfc_pins.specs.declared.fault.BuildFault.TheVariants as builds
use Rattle.wfc_pins.specs.declared.pins.PinFault.TheVariants as pins
use Rattle.wfc_pins.specs.declared.steps.RangeFault.TheVariants as ranges
use Rattle.wfc_pins.specs.declared.steps.StepFault.TheVariants as steps
use Rattle.wfc_plan.specs.Fault.{IsRefusedAs}
use Rattle.wfc_plan.specs.Plan.{Plan, done, most_bytes, read}
use Rattle.wfc_plan.specs.Stages.{IsReadingFault, TaskStage}
use Rattle.wfc_plan.specs.declared.fault.Fault.TheVariants.{Unread}
use Rattle.wfc_plan.specs.declared.fault.Refusal.{Refusal}
use Rattle.wfc_plan.specs.declared.fault.Refusal.TheVariants as refusals
use Rattle.wfc_plan.specs.declared.fault.Source.TheVariants.{Mask, Pins, Sample}
use Rattle.wfc_ppm.specs.declared.reading.PpmFault.TheVariants as ppms
use Rattle.wfc_render.specs.declared.form.RenderFault.TheVariants as renders
use Rattle.wfc_tiled.specs.declared.reading.MaskFault.TheVariants as masks
use Rattle.wfc_tileset.specs.declared.fault.TileFault.TheVariants as tiles

-- the sample `a` is read, and then the pins file `b`
abbrev pub two_files_plan : Plan ℕ
two_files_plan = read Sample (97 ∷ []) most_bytes (λ a. read Pins (98 ∷ []) most_bytes (λ b. done 0))

-- what is looked at for it: the one file, and then the other
abbrev pub two_files_order : List File → List TaskStage
two_files_order files = IsReadingFault Sample files (97 ∷ []) ∷ IsReadingFault Pins files (98 ∷ []) ∷ []

-- the file `a`, of one byte
abbrev pub first_file : File
first_file = record { name = 97 ∷ []; bytes = 7 ∷ [] }

-- the file `b`, which is empty
abbrev pub second_file : File
second_file = record { name = 98 ∷ []; bytes = [] }

-- the folder that tells these files, and has counted no fault
abbrev pub folder_telling : List File → FolderView
folder_telling files = record { contents = Some files; faults = λ name. 0 }

-- stages that are both at fault: the pins file is missing, and then the sample
abbrev pub two_missing_order : List TaskStage
two_missing_order = (λ f. f ≡ Unread Pins Missing) ∷ (λ f. f ≡ Unread Sample Missing) ∷ []

-- what a fault of learning becomes
abbrev pub IsLearnRefusal : LearnFault → Refusal → Type 0
IsLearnRefusal fault refusal = IsRefusedAs refusals.Learn learning.NoMemory fault refusal

-- that what was given is at fault, as each kind of step says it
abbrev pub wrong_refusals : List Refusal
wrong_refusals =
    refusals.Grid Mask grids.Empty
    ∷ refusals.Ppm Sample ppms.Magic
    ∷ refusals.Colours (palettes.TooManyColours 7)
    ∷ refusals.Learn learning.SampleBelowN
    ∷ refusals.Render renders.FormDiffers
    ∷ refusals.Pins (pins.BadLine 7)
    ∷ refusals.Build builds.SizeBelowN
    ∷ refusals.Steps (steps.NothingToUndo 7)
    ∷ refusals.Range (ranges.OutOfRange 7)
    ∷ refusals.TooLong Pins
    ∷ refusals.Tiles tiles.NoTiles
    ∷ refusals.Mask masks.AllHoles
    ∷ refusals.Stacks stacks.NotArray
    ∷ []
