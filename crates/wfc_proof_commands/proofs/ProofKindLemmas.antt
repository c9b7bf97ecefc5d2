-- What is known of a kind of maps whose problems are refuted.
use Rattle.std.proofs.Common.{List, Ok, ◌≡◌}
use Rattle.wfc_outside.specs.Folder.{File}
use Rattle.wfc_plan.proofs.CallerLemmas.{Faults, Same, one_value, same_known}
use Rattle.wfc_plan.specs.Order.{IsFirstFault}
use Rattle.wfc_plan.specs.Plan.{outcome}
use Rattle.wfc_plan.specs.Stages.{TaskStage}
use Rattle.wfc_problem.specs.Network.{Network}
use Rattle.wfc_proof_commands.specs.Checking.{flat_proofs}
use Rattle.wfc_proof_commands.specs.ProofKind.{ProofKind}
use Rattle.wfc_task.proofs.CallerLemmas.{faults_posed, given_posed, posed_given}
use Rattle.wfc_words.specs.RequestView.{RequestView}

-- a problem is what its plan comes to, and the plan has the first fault of what is looked at
pub record IsProofKind (space : ProofKind) : Type 0 where
  pub posed : (asked : RequestView) (files : List File) (P : Network) → outcome (space.plan asked) files ≡ Ok P → space.maps.IsPosed asked files P
  pub given : (asked : RequestView) (files : List File) (P : Network) → space.maps.IsPosed asked files P → outcome (space.plan asked) files ≡ Ok P
  pub faults : (asked : RequestView) (files : List File) → Faults (space.plan asked) files (IsFirstFault (space.order asked files))

-- there is one such problem
pub same_problem : (space : ProofKind) → IsProofKind space → (asked : RequestView) (files : List File) (P : Network) (stage : Network → TaskStage) → outcome (space.plan asked) files ≡ Ok P
    → Same (stage P) (λ fault. (other : Network) × space.maps.IsPosed asked files other × stage other fault)
same_problem space is asked files P stage was =
    same_known (λ other. space.maps.IsPosed asked files other) stage P (is.posed asked files P was) (λ other also. one_value (space.plan asked) files P other was (is.given asked files other also))

-- windows and tiles are such a kind
pub flat_is : IsProofKind flat_proofs
flat_is = record { posed = posed_given; given = given_posed; faults = faults_posed }
