-- What is built has exactly the legal boxes as its legal assignments.
use Rattle.std.proofs.Common.{◌≡◌, ℕ, ◌≤◌, ◌&&◌, Bool, true, false, List, [], ◌∷◌, Option, None, Some, Result, Ok, Err, refl, subst, arith}
use Rattle.std.specs.Prelude.{if◌then◌else◌, nat_lt}
use Rattle.std.specs.Option.{ok_or, option_map}
use Rattle.std.proofs.lemmas.Bool.Decides.{nat_tests}
use Rattle.std.proofs.lemmas.List.Elements.{All-cons, All-nil}
use Rattle.wfc_outside.specs.Gives.{result_map}
use Rattle.wfc_pins.specs.InOrder.{and_rest}
use Rattle.wfc_pins.specs.declared.fault.BuildFault.{BuildFault}
use Rattle.wfc_pins.specs.declared.fault.BuildFault.TheVariants.{PinOutside, TooLarge, UnknownSymbol}
use Rattle.wfc_problem.specs.Network.{Network}
use Rattle.wfc_problem.specs.declared.TheConstants.{MAX_PAIRS}
use Rattle.wfc_tileset.specs.Tiles.{TileSetView, TileView, variant_of}
use Rattle.wfc_tileset.specs.TileSets.{IsTileSet}
use Rattle.wfc_box.specs.Boxes.{AreInBox, IsFrame, IsInBox, LayerPin}
use Rattle.wfc_box.specs.BoxPinView.{BoxPinView}
use Rattle.wfc_box.specs.BoxProblem.{problem_of_box}
use Rattle.wfc_box.specs.Built.{box_built, box_pairs, box_pin_in, box_pin_with, box_pins_in}
use Rattle.wfc_box.specs.Exactly.{AreBoxes, IsOfBoxes}
use Rattle.wfc_box.specs.declared.frame.Frame.{Frame}
use Rattle.wfc_box.proofs.BoxLemmas.{box_problem}
use Rattle.wfc_box.proofs.BridgeLemmas.{assignment_again, assignment_is_box, box_again, box_is_assignment}

-- the pin that a line means lies in the box
pin_is_inside : (tiles : List TileView) (frame : Frame) (line : BoxPinView) (pin : LayerPin) → box_pin_in tiles frame line ≡ Ok pin → IsInBox frame pin
pin_is_inside tiles frame line pin is =
    by_tests (nat_lt line.x frame.width) (nat_lt line.y frame.height) (nat_lt line.z frame.depth) (variant_of tiles line.symbol) refl refl refl is
  where
    by_tests : (wide high deep : Bool) (variant : Option ℕ) → nat_lt line.x frame.width ≡ wide → nat_lt line.y frame.height ≡ high → nat_lt line.z frame.depth ≡ deep
        → (if wide && (high && deep) then ok_or (option_map (box_pin_with line) variant) (UnknownSymbol line.line) else Err (PinOutside line.line)) ≡ Ok pin
        → IsInBox frame pin
    by_tests true true true (Some variant) w h d is =
        let same : box_pin_with line variant ≡ pin = cc in
        subst (IsInBox frame) same (record { column_in = grind (arith, nat_tests, w); row_in = grind (arith, nat_tests, h); layer_in = grind (arith, nat_tests, d) })
    by_tests true true true None w h d is = absurd (cc)
    by_tests true true false variant w h d is = absurd (cc)
    by_tests true false deep variant w h d is = absurd (cc)
    by_tests false high deep variant w h d is = absurd (cc)

-- so do those of all lines
pub pins_inside : (tiles : List TileView) (frame : Frame) (lines : List BoxPinView) (pins : List LayerPin) → box_pins_in tiles frame lines ≡ Ok pins → AreInBox frame pins
pins_inside tiles frame [] pins is = let same : [] ≡ pins = cc in subst (AreInBox frame) same (All-nil (IsInBox frame))
pins_inside tiles frame (line ∷ lines) pins is = by_first (box_pin_in tiles frame line) (box_pins_in tiles frame lines) (pin_is_inside tiles frame line) (pins_inside tiles frame lines) is
  where
    by_first : (first : Result LayerPin BuildFault) (rest : Result (List LayerPin) BuildFault) → ((pin : LayerPin) → first ≡ Ok pin → IsInBox frame pin) → ((pins : List LayerPin) → rest ≡ Ok pins → AreInBox frame pins)
        → and_rest first rest ≡ Ok pins → AreInBox frame pins
    by_first (Err fault) rest head tail is = absurd (cc)
    by_first (Ok pin) (Err fault) head tail is = absurd (cc)
    by_first (Ok pin) (Ok more) head tail is = let same : (pin ∷ more) ≡ pins = cc in subst (AreInBox frame) same (All-cons (IsInBox frame) pin more (head pin refl) (tail more refl))

-- the problem of pins that lines mean
pub boxes_of : (set : TileSetView) (stacked : List (ℕ × ℕ)) (frame : Frame) (lines : List BoxPinView) (pins : List LayerPin) → IsTileSet set → IsFrame frame → box_pairs set frame ≤ MAX_PAIRS
    → box_pins_in set.tiles frame lines ≡ Ok pins → AreBoxes set stacked frame lines pins (problem_of_box set stacked frame pins)
boxes_of set stacked frame lines pins tiles is few meant =
    let problem = box_problem set stacked frame pins tiles is few in
    let inside = pins_inside set.tiles frame lines pins meant in
    record {
      meant = meant;
      problem = problem;
      made = λ a legal. assignment_is_box set stacked frame pins a is tiles problem inside legal;
      given = λ box legal. box_is_assignment set stacked frame pins box is legal;
      made_again = λ a legal. assignment_again set stacked frame pins a is tiles problem inside legal;
      given_again = λ box legal. box_again set stacked frame pins box is legal;
    }

-- the problem that is built
pub built_is_of_boxes : (set : TileSetView) (stacked : List (ℕ × ℕ)) (frame : Frame) (lines : List BoxPinView) (P : Network) → IsTileSet set → IsFrame frame
    → box_built set stacked frame lines ≡ Ok P → IsOfBoxes set stacked frame lines P
built_is_of_boxes set stacked frame lines P tiles frame_is is = by_tests (nat_lt MAX_PAIRS (box_pairs set frame)) (box_pins_in set.tiles frame lines) refl refl is
  where
    by_tests : (many : Bool) (pins : Result (List LayerPin) BuildFault) → nat_lt MAX_PAIRS (box_pairs set frame) ≡ many → box_pins_in set.tiles frame lines ≡ pins
        → (if many then Err (TooLarge (box_pairs set frame)) else result_map (problem_of_box set stacked frame) pins) ≡ Ok P
        → IsOfBoxes set stacked frame lines P
    by_tests true pins p q is = absurd (cc)
    by_tests false (Err fault) p q is = absurd (cc)
    by_tests false (Ok pins) p q is =
        let few : box_pairs set frame ≤ MAX_PAIRS = grind (arith, nat_tests, p) in
        let same : problem_of_box set stacked frame pins ≡ P = cc in
        (pins, subst (AreBoxes set stacked frame lines pins) same (boxes_of set stacked frame lines pins tiles frame_is few q))
