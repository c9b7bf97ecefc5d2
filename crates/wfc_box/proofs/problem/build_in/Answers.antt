use Rattle.std.proofs.Common.{◌≡◌, ◌≤◌, List, Result, Ok, inl, inr, sym, subst, ap, ◌∙◌, arith}
use Rattle.wfc_outside.specs.Gives.{Gives}
use Rattle.wfc_pins.specs.declared.fault.BuildFault.{BuildFault}
use Rattle.wfc_pins.specs.declared.fault.BuildFault.TheVariants.{NoMemory}
use Rattle.wfc_problem.specs.Network.{IsProblem}
use Rattle.wfc_problem.specs.declared.TheConstants.{MAX_PAIRS}
use Rattle.wfc_box.specs.Boxes.{AreInBox, LayerPin}
use Rattle.wfc_box.specs.BoxProblem.{problem_of_box}
use Rattle.wfc_box.specs.Built.{box_pairs, box_pins_in}
use Rattle.wfc_box.specs.Exactly.{AreBoxes}
use Rattle.wfc_box.proofs.BoxLemmas.{box_problem, few_cells}
use Rattle.wfc_box.proofs.BuiltLemmas.{boxes_of}
use Rattle.wfc_box.proofs.problem.build_in.Goals as goal

-- the pins that were read
meant_by : {X : Type 0} (view : X → List LayerPin) (marks : X) (pins : List LayerPin) (wanted : Result (List LayerPin) BuildFault) → view marks ≡ pins
    → Gives NoMemory view (let read : Result X BuildFault = Ok marks in read) wanted → wanted ≡ Ok pins
meant_by view marks pins wanted same (inl is) = sym is ∙ ap Ok same
meant_by view marks pins wanted same (inr none) = absurd (cc (none))

pub parts-requires : goal.parts-requires
parts-requires c =
    let few : box_pairs c.args.tiles.now c.args.frame ≤ MAX_PAIRS = omega (arith, c.pairs-product.ensures.value, c.if-product-gt-MAX_PAIRS.false) in
    record {
      frame = c.requires.frame;
      few = few;
      few_cells = few_cells c.args.tiles.now c.args.frame c.pairs-product.ensures.tile_set few;
      inside = subst (AreInBox c.args.frame) (sym c.deref.ensures.value) c.in_ok-marks.ensures.inside;
    }

pub from_known-requires : goal.from_known-requires
from_known-requires c =
    let few : box_pairs c.args.tiles.now c.args.frame ≤ MAX_PAIRS = omega (arith, c.pairs-product.ensures.value, c.if-product-gt-MAX_PAIRS.false) in
    record {
      problem = subst IsProblem (sym c.in_ok-parts.ensures.value)
          (box_problem c.args.tiles.now c.args.stacks.now c.args.frame c.deref.result.now c.pairs-product.ensures.tile_set c.requires.frame few);
    }

pub returns-clause-boxes : goal.returns-clause-boxes
returns-clause-boxes c =
    let set = c.args.tiles.now in
    let stacked = c.args.stacks.now in
    let frame = c.args.frame in
    let lines = c.args.pins.now in
    let pins = c.deref.result.now in
    let few : box_pairs set frame ≤ MAX_PAIRS = omega (arith, c.pairs-product.ensures.value, c.if-product-gt-MAX_PAIRS.false) in
    let meant : box_pins_in set.tiles frame lines ≡ Ok pins = meant_by (λ marks. marks.items) c.in_ok-marks.marks pins (box_pins_in set.tiles frame lines) (sym c.deref.ensures.value) c.in_ok-marks.ensures.exact in
    let value : problem_of_box set stacked frame pins ≡ c.from_known.result = sym (c.from_known.ensures.value ∙ c.in_ok-parts.ensures.value) in
    (pins, subst (AreBoxes set stacked frame lines pins) value (boxes_of set stacked frame lines pins c.pairs-product.ensures.tile_set c.requires.frame few meant))
