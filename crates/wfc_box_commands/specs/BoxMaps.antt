-- Boxes of tiles as a kind of maps.
use Rattle.std.specs.Prelude.{List, Ok, ℕ, ◌≡◌}
use Rattle.wfc_box.specs.BoxText.{box_layout_of, box_text}
use Rattle.wfc_box.specs.Boxes.{IsLegalBox, box_of}
use Rattle.wfc_box_commands.specs.BoxGiven.{IsBoxProblemOf, IsStackedSetOf}
use Rattle.wfc_box_commands.specs.BoxPlans.{StackedSet}
use Rattle.wfc_box_commands.specs.BoxSteps.{frame_asked}
use Rattle.wfc_model.specs.Raster.{Raster}
use Rattle.wfc_outside.specs.Folder.{File}
use Rattle.wfc_problem.specs.Assignment.{IsLegalAssignment}
use Rattle.wfc_problem.specs.Network.{Network}
use Rattle.wfc_render.specs.declared.form.Form.{Form}
use Rattle.wfc_task.specs.MapKind.{MapKind}
use Rattle.wfc_tileset.specs.Pictures.{kind_of, side_of}
use Rattle.wfc_words.specs.RequestView.{RequestView}

-- the file spells this tile set with its stacks, and the problem is that of the request
pub record OfBox (asked : RequestView) (files : List File) (P : Network) : Type 0 where
  pub made : StackedSet
  pub tiles : IsStackedSetOf asked files made
  pub problem : IsBoxProblemOf asked files made P

-- the form is that of a box of the size asked for
abbrev pub IsBoxLaid : (asked : RequestView) (files : List File) (P : Network) → OfBox asked files P → Form → Type 0
IsBoxLaid asked files P of form =
    box_layout_of (kind_of of.made.0.pictures) asked.form asked.width asked.height asked.depth
    (side_of of.made.0.pictures)
    ≡ Ok form

-- a box of the size asked for, whose layers are legal maps of the tile set, of whose places each and the one above it
-- are stacked, and in which the pins and bans of the pins file hold
abbrev pub IsBoxAsked : (asked : RequestView) (files : List File) (P : Network)
    → OfBox asked files P → List Raster → Type 0
IsBoxAsked asked files P of box = IsLegalBox of.made.0 of.made.1 (frame_asked asked) of.problem.pins box

-- each legal assignment of the problem makes a box that is asked for
abbrev pub MakesBoxes : {asked : RequestView} {files : List File} {P : Network} → OfBox asked files P → Type 0
MakesBoxes {asked} {files} {P} of =
    (a : List ℕ) → IsLegalAssignment P a → IsBoxAsked asked files P of (box_of (frame_asked asked) a)

-- where there is a box that is asked for, the problem has a legal assignment
abbrev pub AssignsBoxes : {asked : RequestView} {files : List File} {P : Network} → OfBox asked files P → Type 0
AssignsBoxes {asked} {files} {P} of =
    (box : List Raster) → IsBoxAsked asked files P of box → (a : List ℕ) × IsLegalAssignment P a

-- boxes of tiles, layer upon layer
abbrev pub box_maps : MapKind
box_maps = record {
  Map = List Raster;
  Layout = Form;
  IsPosed = OfBox;
  IsLaid = IsBoxLaid;
  IsLegal = IsBoxAsked;
  map_of = λ asked files P of a. box_of (frame_asked asked) a;
  text_of = λ asked files P of form box. box_text form of.made.0 box;
}
