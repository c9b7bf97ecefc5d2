-- A kind of maps whose problems are refuted.
use Rattle.std.specs.Prelude.{List}
use Rattle.wfc_outside.specs.Folder.{File}
use Rattle.wfc_plan.specs.Plan.{Plan}
use Rattle.wfc_plan.specs.Stages.{TaskStage}
use Rattle.wfc_problem.specs.Network.{Network}
use Rattle.wfc_proof.specs.declared.heads.Shape.{Shape}
use Rattle.wfc_task.specs.MapKind.{MapKind}
use Rattle.wfc_words.specs.RequestView.{RequestView}

-- its maps; how the problem of a request is read, and what is looked at for it, in which order; and the shape that a
-- refutation tells
pub record ProofKind : Type 1 where
  pub maps : MapKind
  pub plan : RequestView → Plan Network
  pub order : RequestView → List File → List TaskStage
  pub shape_of : RequestView → Shape
