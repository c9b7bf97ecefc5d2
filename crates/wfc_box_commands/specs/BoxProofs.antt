-- Boxes as a kind of maps whose problems are refuted.
use Rattle.std.specs.Prelude.{false}
use Rattle.wfc_box_commands.specs.BoxMaps.{box_maps}
use Rattle.wfc_box_commands.specs.BoxOrder.{box_order}
use Rattle.wfc_box_commands.specs.BoxPlans.{box_plan}
use Rattle.wfc_proof.specs.declared.heads.Shape.{Shape}
use Rattle.wfc_proof_commands.specs.ProofKind.{ProofKind}
use Rattle.wfc_words.specs.RequestView.{RequestView}

-- the shape of a box: no windows, images and edges of a sample are told, and its layers are
abbrev pub box_shape : RequestView → Shape
box_shape asked = record {
  n = 0;
  width = asked.width;
  height = asked.height;
  depth = asked.depth;
  symmetry = 1;
  wrap_in = false;
  wrap_out = asked.wrap_out;
}

-- boxes of tiles
abbrev pub box_proofs : ProofKind
box_proofs = record { maps = box_maps; plan = box_plan; order = box_order; shape_of = box_shape }
