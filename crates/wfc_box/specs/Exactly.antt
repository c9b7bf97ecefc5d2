-- What the problem of a box is for.
use Rattle.std.specs.Prelude.{◌≡◌, ℕ, ◌≤◌, List, Ok}
use Rattle.wfc_model.specs.Raster.{Raster}
use Rattle.wfc_problem.specs.Assignment.{IsLegalAssignment}
use Rattle.wfc_problem.specs.Network.{Network, IsProblem}
use Rattle.wfc_problem.specs.declared.TheConstants.{MAX_PAIRS}
use Rattle.wfc_tileset.specs.Tiles.{TileSetView}
use Rattle.wfc_tileset.specs.TileSets.{IsTileSet}
use Rattle.wfc_box.specs.BoxProblem.{IsLegalInBox, problem_of_box}
use Rattle.wfc_box.specs.Boxes.{AreInBox, IsFrame, IsLegalBox, LayerPin, box_of, numbers_of_box}
use Rattle.wfc_box.specs.BoxPinView.{BoxPinView}
use Rattle.wfc_box.specs.Built.{box_built, box_pairs, box_pins_in}
use Rattle.wfc_box.specs.declared.frame.Frame.{Frame}

-- the lines mean these pins, and the problem's legal assignments are exactly the legal boxes: each makes the other,
-- and gives it again
pub record AreBoxes (set : TileSetView) (stacked : List (ℕ × ℕ)) (frame : Frame) (lines : List BoxPinView)
    (pins : List LayerPin) (P : Network) : Type 0 where
  pub meant : box_pins_in set.tiles frame lines ≡ Ok pins
  pub problem : IsProblem P
  pub made : (a : List ℕ) → IsLegalAssignment P a → IsLegalBox set stacked frame pins (box_of frame a)
  pub given : (box : List Raster) → IsLegalBox set stacked frame pins box → IsLegalAssignment P (numbers_of_box frame box)
  pub made_again : (a : List ℕ) → IsLegalAssignment P a → numbers_of_box frame (box_of frame a) ≡ a
  pub given_again : (box : List Raster) → IsLegalBox set stacked frame pins box → box_of frame (numbers_of_box frame box) ≡ box

-- so for some pins
abbrev pub IsOfBoxes : TileSetView → List (ℕ × ℕ) → Frame → List BoxPinView → Network → Type 0
IsOfBoxes set stacked frame lines P = (pins : List LayerPin) × AreBoxes set stacked frame lines pins P

-- what is built of a tile set, of stacked pairs, of a frame and of lines is a problem of boxes
abbrev pub IsBuiltOfBoxes : TileSetView → List (ℕ × ℕ) → Frame → List BoxPinView → Type 0
IsBuiltOfBoxes set stacked frame lines =
    (P : Network) → IsTileSet set → IsFrame frame → box_built set stacked frame lines ≡ Ok P
    → IsOfBoxes set stacked frame lines P

-- a tile set and a frame make a problem, where there are few enough pairs of a place and a variant
abbrev pub MakesBoxProblem : TileSetView → List (ℕ × ℕ) → Frame → List LayerPin → Type 0
MakesBoxProblem set stacked frame pins =
    IsTileSet set → IsFrame frame → box_pairs set frame ≤ MAX_PAIRS → IsProblem (problem_of_box set stacked frame pins)

-- in a frame the numbers of each legal box are a legal assignment
abbrev pub HasAssignedBoxes : TileSetView → List (ℕ × ℕ) → Frame → List LayerPin → Type 0
HasAssignedBoxes set stacked frame pins =
    (box : List Raster) → IsFrame frame → IsLegalBox set stacked frame pins box
    → IsLegalInBox set stacked frame pins (numbers_of_box frame box)

-- where a tile set and a frame make a problem, with pins in the box, the box of each legal assignment is legal
abbrev pub HasLegalBoxes : TileSetView → List (ℕ × ℕ) → Frame → List LayerPin → Type 0
HasLegalBoxes set stacked frame pins =
    (a : List ℕ) → IsFrame frame → IsTileSet set → IsProblem (problem_of_box set stacked frame pins) → AreInBox frame pins
    → IsLegalInBox set stacked frame pins a → IsLegalBox set stacked frame pins (box_of frame a)

-- in a frame each legal box is the one that its numbers make
abbrev pub HasBoxesAgain : TileSetView → List (ℕ × ℕ) → Frame → List LayerPin → Type 0
HasBoxesAgain set stacked frame pins =
    (box : List Raster) → IsFrame frame → IsLegalBox set stacked frame pins box
    → box_of frame (numbers_of_box frame box) ≡ box

-- where a tile set and a frame make a problem, with pins in the box, each legal assignment is the numbers of its box
abbrev pub HasAssignmentsAgain : TileSetView → List (ℕ × ℕ) → Frame → List LayerPin → Type 0
HasAssignmentsAgain set stacked frame pins =
    (a : List ℕ) → IsFrame frame → IsTileSet set → IsProblem (problem_of_box set stacked frame pins) → AreInBox frame pins
    → IsLegalInBox set stacked frame pins a → numbers_of_box frame (box_of frame a) ≡ a
