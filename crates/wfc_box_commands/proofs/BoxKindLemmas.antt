-- Boxes are a kind of maps whose problems are posed and refuted.
use Rattle.std.proofs.Common.{List, ap, arith, subst, sym, true, ◌∙◌, ◌≡◌}
use Rattle.std.specs.Prelude.{codes}
use Rattle.wfc_box.proofs.CallerLemmas.{assignment_is_box, box_is_assignment, box_problem, pins_inside}
use Rattle.wfc_box.specs.Boxes.{IsFrame, numbers_of_box}
use Rattle.wfc_box_commands.proofs.BoxGivenLemmas.{box_posed, posed_box_given}
use Rattle.wfc_box_commands.proofs.BoxOrderLemmas.{faults_box}
use Rattle.wfc_box_commands.specs.BoxMaps.{OfBox, box_maps}
use Rattle.wfc_box_commands.specs.BoxProofs.{box_proofs, box_shape}
use Rattle.wfc_box_commands.specs.BoxSteps.{frame_asked}
use Rattle.wfc_outside.specs.Folder.{File}
use Rattle.wfc_problem.specs.Assignment.{IsLegalAssignment}
use Rattle.wfc_problem.specs.Network.{IsProblem, Network}
use Rattle.wfc_proof.specs.Heads.{IsShape}
use Rattle.wfc_proof_commands.proofs.CallerLemmas.{IsProofKind}
use Rattle.wfc_reply.specs.Asking.{IsCommand}
use Rattle.wfc_reply.specs.Call.{Call}
use Rattle.wfc_task.proofs.CallerLemmas.{command_output, set_is}
use Rattle.wfc_task.specs.MapKind.{IsMapProblem}
use Rattle.wfc_words.proofs.RangeLemmas.{asked-in_range}
use Rattle.wfc_words.specs.Commands.{requires_word}
use Rattle.wfc_words.specs.InRange.{IsInRange}
use Rattle.wfc_words.specs.RequestView.{RequestView}
use Rattle.wfc_words.specs.declared.kinds.CommandKind.{CommandKind}

pub box_is : IsProofKind box_proofs
box_is = record { posed = box_posed; given = posed_box_given; faults = faults_box }

-- legal boxes of a request and legal assignments of its problem are each other's
pub box_bridged : (asked : RequestView) (files : List File) (P : Network) (of : OfBox asked files P) → IsFrame (frame_asked asked) → IsMapProblem box_maps asked files P of
box_bridged asked files P of frame =
    let set = of.made.0 in
    let stacked = of.made.1 in
    let problem = of.problem in
    let tiles = set_is asked files set of.tiles.tiles in
    let is = box_problem set stacked (frame_asked asked) problem.pins tiles frame problem.few_pairs in
    let inside = pins_inside set.tiles (frame_asked asked) problem.lines problem.pins problem.meant in
    record {
      problem = subst IsProblem (sym problem.problem) is;
      makes = λ a legal. assignment_is_box set stacked (frame_asked asked) problem.pins a frame tiles is inside (subst (λ P. IsLegalAssignment P a) problem.problem legal);
      assigned = λ box legal. (
        numbers_of_box (frame_asked asked) box,
        subst (λ P. IsLegalAssignment P (numbers_of_box (frame_asked asked) box)) (sym problem.problem) (box_is_assignment set stacked (frame_asked asked) problem.pins box frame legal),
      );
    }

-- ---- of a command

-- a command has words for the sides of a box
pub record TakesBox (command : CommandKind) : Type 0 where
  pub width : requires_word command (codes "WIDTH") ≡ true
  pub height : requires_word command (codes "HEIGHT") ≡ true
  pub depth : requires_word command (codes "DEPTH") ≡ true

-- its frame is one
pub command_frame : (command : CommandKind) (asked : RequestView) → TakesBox command → IsInRange asked → asked.command ≡ command → IsFrame (frame_asked asked)
command_frame command asked has range is =
    let output = command_output asked command range is has.width has.height in
    record {
      some_column = output.some_width;
      some_row = output.some_height;
      some_layer = range.space.some_depth (ap (λ c. requires_word c (codes "DEPTH")) is ∙ has.depth);
      width_limit = output.width_limit;
      height_limit = output.height_limit;
      depth_limit = range.space.depth_limit;
    }

called_frame : (command : CommandKind) → TakesBox command → (call : Call) (asked : RequestView) (files : List File) → IsCommand command call asked files → IsFrame (frame_asked asked)
called_frame command has call asked files is = command_frame command asked has (asked-in_range call.words asked is.given.spelled) is.command_is

-- what is known of its problem
pub box_known : (command : CommandKind) → TakesBox command → (call : Call) (asked : RequestView) (files : List File) → IsCommand command call asked files → (P : Network) (posed : OfBox asked files P) → IsMapProblem box_maps asked files P posed
box_known command has call asked files is P posed = box_bridged asked files P posed (called_frame command has call asked files is)

-- and of its shape
pub box_shaped : (command : CommandKind) → TakesBox command → (call : Call) (asked : RequestView) (files : List File) → IsCommand command call asked files → IsShape (box_shape asked)
box_shaped command has call asked files is =
    let frame = called_frame command has call asked files is in
    record {
      n = omega arith;
      width = omega (arith, frame.width_limit);
      height = omega (arith, frame.height_limit);
      depth = omega (arith, frame.depth_limit);
      symmetry = omega arith;
    }
