-- Small requests for boxes, whose files have several faults at once, and what `box-fill` and other plans come to for them.
use Rattle.std.specs.Prelude.{Bool, Err, List, None, Ok, Option, Result, Some, [], false, true, ℕ, ◌∷◌, ◌≡◌}
use Rattle.wfc_box.specs.BoxText.{box_layout_of}
use Rattle.wfc_box.specs.Built.{box_pairs}
use Rattle.wfc_box.specs.StackDocument.{stacks_of}
use Rattle.wfc_box.specs.declared.fault.StackFault.{StackFault}
use Rattle.wfc_box_commands.specs.BoxFillTask.{BoxFillTask, box_fill_plan}
use Rattle.wfc_box_commands.specs.BoxGiven.{IsStackedSetOf}
use Rattle.wfc_box_commands.specs.BoxPlans.{StackedSet}
use Rattle.wfc_box_commands.specs.BoxSteps.{frame_asked}
use Rattle.wfc_choose.specs.declared.RuleKind.{RuleKind}
use Rattle.wfc_choose.specs.declared.RuleKind.TheVariants.{Fewest}
use Rattle.wfc_outside.specs.Folder.{File}
use Rattle.wfc_pins.specs.declared.fault.BuildFault.TheVariants.{TooLarge}
use Rattle.wfc_plan.specs.Files.{IsFile}
use Rattle.wfc_plan.specs.Kinds.{HasChoosers}
use Rattle.wfc_plan.specs.Plan.{Plan, outcome}
use Rattle.wfc_plan.specs.Refusing.{IsPlanRefused}
use Rattle.wfc_plan.specs.declared.fault.Fault.{Fault}
use Rattle.wfc_plan.specs.declared.fault.Fault.TheVariants.{Refused}
use Rattle.wfc_plan.specs.declared.fault.Refusal.{Refusal}
use Rattle.wfc_plan.specs.declared.fault.Refusal.TheVariants as refusals
use Rattle.wfc_proof.specs.declared.heads.Shape.{Shape}
use Rattle.wfc_render.specs.declared.form.Form.{Form}
use Rattle.wfc_render.specs.declared.form.Form.TheVariants.{P6}
use Rattle.wfc_render.specs.declared.form.RenderFault.{RenderFault}
use Rattle.wfc_task.specs.Small.{AreBeside, asked_of}
use Rattle.wfc_task.specs.TileGiven.{IsTileSetOf}
use Rattle.wfc_tileset.specs.Document.{set_of}
use Rattle.wfc_tileset.specs.Pictures.{kind_of, side_of}
use Rattle.wfc_tileset.specs.Tiles.{TileSetView}
use Rattle.wfc_tileset.specs.declared.fault.TileFault.{TileFault}
use Rattle.wfc_words.specs.RequestView.{RequestView}
use Rattle.wfc_words.specs.declared.kinds.SourceModel.TheVariants.{Tiles}

-- a box of two by one by three of the tile set `a`, with the pins of `p` and the refutation `r`; with words of a sample, which wraps
abbrev pub small_box : RequestView
small_box = record (asked_of Tiles None) { depth = 3; wrap_out = false; wrap_in = true; symmetry = 8; budget = 7 }

-- the same, whose layers wrap or don't
abbrev pub wrapped_box : Bool → RequestView
wrapped_box wrap = record small_box { wrap_out = wrap }

-- the same in a form of pictures, in which no box is written
abbrev pub pictured_box : RequestView
pictured_box = record small_box { form = Some P6 }

-- one layer of the largest sides, which has more pairs of a place and a variant than a problem may have
abbrev pub large_box : RequestView
large_box = record small_box { width = 4096; height = 4096; depth = 1 }

-- the shape of a box of this width, height and depth, whose layers wrap or not: no windows, and no images of a sample
abbrev pub shape_of_box : ℕ → ℕ → ℕ → Bool → Shape
shape_of_box width height depth wrap = record {
  n = 0;
  width = width;
  height = height;
  depth = depth;
  symmetry = 1;
  wrap_in = false;
  wrap_out = wrap;
}

-- the layout of a box of this tile set, or why it has none
abbrev pub box_laid : RequestView → StackedSet → Result Form RenderFault
box_laid asked made =
    box_layout_of (kind_of made.0.pictures) asked.form asked.width asked.height asked.depth (side_of made.0.pictures)

-- what `box-fill` comes to with one chooser
abbrev pub box_filled_by_one : RequestView → List File → Result BoxFillTask Fault
box_filled_by_one asked files = outcome (box_fill_plan (Fewest ∷ []) asked) files

-- over any files of the box, with these pins or none, the plan has this fault, by its tile set with its stacks
abbrev pub HasBoxFault : {T : Type 0} → Plan T → RequestView → Option (List ℕ) → (StackedSet → Fault) → Type 0
HasBoxFault plan asked pins fault =
    (files : List File) (made : StackedSet) → IsStackedSetOf asked files made → AreBeside files pins
    → outcome plan files ≡ Err (fault made)

-- so it is with `box-fill` and one chooser, where the box has a layout
abbrev pub HasLaidBoxFault : RequestView → Option (List ℕ) → (StackedSet → Fault) → Type 0
HasLaidBoxFault asked pins fault =
    (files : List File) (made : StackedSet) (form : Form) → IsStackedSetOf asked files made
    → box_laid asked made ≡ Ok form → AreBeside files pins
    → box_filled_by_one asked files ≡ Err (fault made)

-- there are more pairs of a place of the box and a variant than a problem may have
abbrev pub pairs_fault : RequestView → StackedSet → Fault
pairs_fault asked made = Refused (refusals.Build (TooLarge (box_pairs made.0 (frame_asked asked))))

-- the file asked for is no document of a tile set
pub record HasBadTiles (asked : RequestView) (files : List File) (why : TileFault) : Type 0 where
  pub bytes : List ℕ
  pub file : IsFile files asked.file bytes
  pub is : set_of bytes ≡ Err why

-- the file asked for spells a tile set, whose stacks are at fault
pub record HasBadStacks (asked : RequestView) (files : List File) (why : StackFault) : Type 0 where
  pub set : TileSetView
  pub tiles : IsTileSetOf asked files set
  pub is : stacks_of set.tiles tiles.bytes ≡ Err why

-- where a chooser is there, `box-fill` is refused with this over these files
abbrev pub IsBoxFillRefused : RequestView → List File → Refusal → Type 0
IsBoxFillRefused asked files refusal =
    (kinds : List RuleKind) → HasChoosers 1 kinds asked.rule → IsPlanRefused (box_fill_plan kinds asked) files refusal
