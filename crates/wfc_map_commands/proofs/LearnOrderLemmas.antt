-- The first faults of `learn`.
use Rattle.std.proofs.Common.{List, []}
use Rattle.wfc_map_commands.proofs.LearnGivenLemmas.{learned_sample, learned_tiles}
use Rattle.wfc_map_commands.specs.LearnOrder.{learn_order, learn_order_by}
use Rattle.wfc_map_commands.specs.LearnTask.{learn, learn_plan, learn_plan_by, learn_tiles}
use Rattle.wfc_outside.specs.Folder.{File}
use Rattle.wfc_plan.proofs.CallerLemmas.{Faults, faults_group, faults_none}
use Rattle.wfc_plan.specs.Order.{IsFirstFault}
use Rattle.wfc_task.proofs.CallerLemmas.{faults_sample, faults_tiles, sample_stages, tiles_stages}
use Rattle.wfc_task.specs.SamplePlans.{sample_plan}
use Rattle.wfc_task.specs.TilePlans.{tiles_plan}
use Rattle.wfc_words.specs.RequestView.{RequestView}
use Rattle.wfc_words.specs.declared.kinds.SourceModel.{SourceModel}
use Rattle.wfc_words.specs.declared.kinds.SourceModel.TheVariants.{Overlap, Tiles}

-- ---- `learn`

learned_by : (source : SourceModel) (asked : RequestView) (files : List File) → Faults (learn_plan_by source asked) files (IsFirstFault (learn_order_by source asked files))
learned_by (Overlap n) asked files = faults_group (sample_plan asked) learned_sample files (sample_stages asked files) [] (faults_sample asked files) (λ lesson was. faults_none (learn lesson.patterns lesson.palette) files)
learned_by Tiles asked files = faults_group (tiles_plan asked) learned_tiles files (tiles_stages asked files) [] (faults_tiles asked files) (λ set was. faults_none (learn_tiles set) files)

pub faults_learn : (asked : RequestView) (files : List File) → Faults (learn_plan asked) files (IsFirstFault (learn_order asked files))
faults_learn asked files = learned_by asked.source asked files
