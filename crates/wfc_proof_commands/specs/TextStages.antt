-- The stages of a refutation behind a problem, each with the faults that it may have, over files that are told.
use Rattle.std.specs.Prelude.{Err, List, Some, ℕ, ◌≡◌}
use Rattle.wfc_check.specs.Text.{checked}
use Rattle.wfc_check.specs.declared.fault.CheckFault.TheVariants as checks
use Rattle.wfc_outside.specs.Folder.{File, file_of}
use Rattle.wfc_plan.specs.Stages.{TaskStage}
use Rattle.wfc_plan.specs.declared.fault.Fault.{Fault}
use Rattle.wfc_plan.specs.declared.fault.Fault.TheVariants.{Refused}
use Rattle.wfc_plan.specs.declared.fault.Refusal.TheVariants as refusals
use Rattle.wfc_plan.specs.declared.fault.Source.TheVariants.{Refutation}
use Rattle.wfc_problem.specs.Network.{Network}
use Rattle.wfc_proof_commands.specs.Checking.{refutation_name}
use Rattle.wfc_proof_commands.specs.ProofKind.{ProofKind}
use Rattle.wfc_proof.specs.declared.heads.Shape.{Shape}
use Rattle.wfc_words.specs.RequestView.{RequestView}

-- ---- refutations

-- the text of a refutation is too long, and no line before its limit is at fault
pub record IsTextTooLong (shape : Shape) (P : Network) (text : List ℕ) (fault : Fault)
    : Type 0 where
  pub long : checked P shape text ≡ Err checks.TooLong
  pub is : fault ≡ Refused (refusals.TooLong Refutation)

-- so it is with the file of the refutation
abbrev pub IsTextStage : Shape → RequestView → List File → Network → TaskStage
IsTextStage shape asked files P fault =
    (text : List ℕ) × (file_of files (refutation_name asked) ≡ Some text)
    × IsTextTooLong shape P text fault

-- the refutation of the problem of the request is too long
abbrev pub IsTextFault : ProofKind → RequestView → List File → TaskStage
IsTextFault space asked files fault =
    (P : Network) × space.maps.IsPosed asked files P × IsTextStage (space.shape_of asked) asked files P fault
