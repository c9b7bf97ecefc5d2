-- The first faults of `refute`.
use Rattle.std.proofs.Common.{List, [], ◌++◌}
use Rattle.wfc_choose.specs.declared.RuleKind.{RuleKind}
use Rattle.wfc_outside.specs.Folder.{File}
use Rattle.wfc_plan.proofs.CallerLemmas.{Faults, faults_as, faults_choosers, faults_first, faults_group, faults_none, same_end}
use Rattle.wfc_plan.specs.Kinds.{enough}
use Rattle.wfc_plan.specs.Order.{IsFirstFault}
use Rattle.wfc_plan.specs.Plan.{step}
use Rattle.wfc_plan.specs.Stages.{IsChooserFault}
use Rattle.wfc_proof_commands.proofs.ProofKindLemmas.{IsProofKind}
use Rattle.wfc_proof_commands.proofs.RefutingLemmas.{behind_refuted, behind_refuter}
use Rattle.wfc_proof_commands.specs.ProofKind.{ProofKind}
use Rattle.wfc_proof_commands.specs.RefuteOrder.{refute_order}
use Rattle.wfc_proof_commands.specs.RefuteTask.{refute, refute_plan}
use Rattle.wfc_words.specs.RequestView.{RequestView}

pub faults_refute : (space : ProofKind) → IsProofKind space → (kinds : List RuleKind) (asked : RequestView) (files : List File) → Faults (refute_plan space kinds asked) files (IsFirstFault (refute_order space kinds asked files))
faults_refute space is_kind kinds asked files =
    faults_first (step (enough 1 kinds asked.rule)) (λ _. behind_refuter space asked) files (IsChooserFault 1 kinds asked.rule) (space.order asked files) (faults_choosers 1 kinds asked.rule files)
    (λ _ found. faults_as (behind_refuter space asked) files (IsFirstFault (space.order asked files ++ [])) (IsFirstFault (space.order asked files)) (same_end (space.order asked files))
    (faults_group (space.plan asked) behind_refuted files (space.order asked files) [] (is_kind.faults asked files) (λ P was. faults_none (refute P) files)))
