-- The first faults of the problem of a request.
use Rattle.std.proofs.Common.{List, Ok, [], ◌++◌, ◌≡◌}
use Rattle.wfc_outside.specs.Folder.{File}
use Rattle.wfc_plan.proofs.CallerLemmas.{Faults, Same, faults_group, faults_none, one_value, same_known}
use Rattle.wfc_plan.specs.Order.{IsFirstFault}
use Rattle.wfc_plan.specs.Plan.{outcome}
use Rattle.wfc_plan.specs.Stages.{TaskStage}
use Rattle.wfc_problem.specs.Network.{Network}
use Rattle.wfc_task.proofs.PosedLemmas.{behind_tiles, given_posed, posed_given, problem_made}
use Rattle.wfc_task.proofs.ProblemOrderLemmas.{faults_problem, pins_stages, problem_stages}
use Rattle.wfc_task.proofs.SampleOrderLemmas.{faults_sample, sample_stages}
use Rattle.wfc_task.proofs.TileOrderLemmas.{faults_tiled, faults_tiles, tiled_stages, tiles_stages}
use Rattle.wfc_task.specs.Posed.{Posed, posed_plan, posed_plan_by}
use Rattle.wfc_task.specs.PosedOrder.{posed_order, posed_order_by}
use Rattle.wfc_task.specs.SamplePlans.{problem_plan, sample_plan}
use Rattle.wfc_task.specs.TilePlans.{tiled_plan, tiles_plan}
use Rattle.wfc_words.specs.RequestView.{RequestView}
use Rattle.wfc_words.specs.declared.kinds.SourceModel.{SourceModel}
use Rattle.wfc_words.specs.declared.kinds.SourceModel.TheVariants.{Overlap, Tiles}

-- ---- problems

posed_by : (source : SourceModel) (asked : RequestView) (files : List File) → Faults (posed_plan_by source asked) files (IsFirstFault (posed_order_by source asked files))
posed_by (Overlap n) asked files =
    faults_group (sample_plan asked) (λ lesson. problem_plan asked lesson) files (sample_stages asked files) (pins_stages files asked.pins ++ problem_stages asked files) (faults_sample asked files)
    (λ lesson was. faults_problem asked files lesson was)
posed_by Tiles asked files =
    faults_group (tiles_plan asked) (behind_tiles asked) files (tiles_stages asked files) (tiled_stages asked files) (faults_tiles asked files)
    (λ set was. faults_group (tiled_plan asked set) problem_made files (tiled_stages asked files) [] (faults_tiled asked files set was) (λ made given. faults_none made.1 files))

pub faults_posed : (asked : RequestView) (files : List File) → Faults (posed_plan asked) files (IsFirstFault (posed_order asked files))
faults_posed asked files = posed_by asked.source asked files

-- what is looked at of a problem
pub same_posed : (asked : RequestView) (files : List File) (P : Network) (stage : Network → TaskStage) → outcome (posed_plan asked) files ≡ Ok P
    → Same (stage P) (λ fault. (other : Network) × Posed asked files other × stage other fault)
same_posed asked files P stage was =
    same_known (λ other. Posed asked files other) stage P (posed_given asked files P was) (λ other also. one_value (posed_plan asked) files P other was (given_posed asked files other also))
