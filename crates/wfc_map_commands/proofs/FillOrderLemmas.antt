-- The first faults of `fill`.
use Rattle.std.proofs.Common.{List, [], ◌∷◌}
use Rattle.wfc_choose.specs.declared.RuleKind.{RuleKind}
use Rattle.wfc_map_commands.proofs.FillGivenLemmas.{behind_layout, behind_sample, behind_set, behind_tile_layout, fill_made_tiles}
use Rattle.wfc_map_commands.specs.FillOrder.{fill_order, fill_order_by}
use Rattle.wfc_map_commands.specs.FillTask.{FillTask, fill, fill_plan, fill_plan_by, fill_sample_plan, fill_tiles, fill_tiles_plan}
use Rattle.wfc_outside.specs.Folder.{File}
use Rattle.wfc_plan.proofs.CallerLemmas.{Faults, faults_choosers, faults_first, faults_group, faults_none}
use Rattle.wfc_plan.specs.Kinds.{enough}
use Rattle.wfc_plan.specs.Order.{IsFirstFault}
use Rattle.wfc_plan.specs.Plan.{Plan, and_then, done, step}
use Rattle.wfc_plan.specs.Stages.{IsChooserFault, IsNamedFault, IsReadingFault, TaskStage}
use Rattle.wfc_plan.specs.declared.fault.Source.TheVariants.{Pins, Sample}
use Rattle.wfc_task.proofs.CallerLemmas.{faults_layout, faults_problem, faults_sample, faults_tile_layout, faults_tiled, faults_tiles, problem_stages, sample_stages, tiled_stages, tiles_stages}
use Rattle.wfc_task.specs.SamplePlans.{problem_plan, sample_plan}
use Rattle.wfc_task.specs.Stages.{IsFormFault, IsLayoutFault, IsLearnFault, IsPairsFault, IsPinFault, IsPinsFault, IsSizeFault, IsSymbolsFault}
use Rattle.wfc_task.specs.Steps.{sample_layout}
use Rattle.wfc_task.specs.TilePlans.{tiled_plan, tiles_plan}
use Rattle.wfc_task.specs.TileStages.{IsDocumentFault, IsTileLayoutFault, IsTilesFault}
use Rattle.wfc_task.specs.TileSteps.{tile_layout}
use Rattle.wfc_words.specs.RequestView.{RequestView}
use Rattle.wfc_words.specs.declared.kinds.SourceModel.{SourceModel}
use Rattle.wfc_words.specs.declared.kinds.SourceModel.TheVariants.{Overlap, Tiles}

-- ---- `fill`

-- of `fill` of a sample behind its chooser
abbrev pub fill_sample_stages : RequestView → List File → List TaskStage
fill_sample_stages asked files =
    IsReadingFault Sample files asked.file ∷ IsFormFault asked files ∷ IsSymbolsFault asked files ∷ IsLearnFault asked files ∷ IsLayoutFault asked files
    ∷ IsNamedFault Pins files asked.pins ∷ IsPinsFault files asked.pins ∷ IsSizeFault asked files ∷ IsPairsFault asked files ∷ IsPinFault asked files ∷ []

pub faults_fill_sample : (asked : RequestView) (files : List File)
    → Faults (fill_sample_plan asked) files (IsFirstFault (fill_sample_stages asked files))
faults_fill_sample asked files =
    let pinned : List TaskStage = IsNamedFault Pins files asked.pins ∷ IsPinsFault files asked.pins ∷ problem_stages asked files in
    faults_group (sample_plan asked) (behind_sample asked) files (sample_stages asked files) (IsLayoutFault asked files ∷ pinned) (faults_sample asked files)
    (λ lesson was. faults_first (step (sample_layout lesson.kind asked)) (behind_layout asked lesson) files (IsLayoutFault asked files) pinned (faults_layout asked files lesson was)
    (λ layout written. faults_group (problem_plan asked lesson) (λ P. let end : Plan FillTask = done (fill lesson.patterns lesson.palette layout P) in end) files pinned [] (faults_problem asked files lesson was)
    (λ P made. faults_none (fill lesson.patterns lesson.palette layout P) files)))

-- ---- `fill`

-- of `fill` of a tile set behind its chooser
abbrev pub fill_tiles_stages : RequestView → List File → List TaskStage
fill_tiles_stages asked files = IsReadingFault Sample files asked.file ∷ IsDocumentFault asked files ∷ IsTilesFault asked files ∷ IsTileLayoutFault asked files ∷ tiled_stages asked files

pub faults_fill_tiles : (asked : RequestView) (files : List File)
    → Faults (fill_tiles_plan asked) files (IsFirstFault (fill_tiles_stages asked files))
faults_fill_tiles asked files =
    faults_group (tiles_plan asked) (behind_set asked) files (tiles_stages asked files) (IsTileLayoutFault asked files ∷ tiled_stages asked files) (faults_tiles asked files)
    (λ set was. faults_first (step (tile_layout set asked)) (behind_tile_layout asked set) files (IsTileLayoutFault asked files) (tiled_stages asked files) (faults_tile_layout asked files set was)
    (λ layout written. faults_group (tiled_plan asked set) (fill_made_tiles set layout) files (tiled_stages asked files) [] (faults_tiled asked files set was)
    (λ made given. faults_none (fill_tiles set made.0 layout made.1) files)))

faults_by : (source : SourceModel) (kinds : List RuleKind) (asked : RequestView) (files : List File)
    → Faults (and_then (step (enough 1 kinds asked.rule)) (λ _. fill_plan_by source asked)) files (IsFirstFault (fill_order_by source kinds asked files))
faults_by (Overlap n) kinds asked files =
    faults_first (step (enough 1 kinds asked.rule)) (λ _. fill_sample_plan asked) files (IsChooserFault 1 kinds asked.rule) (fill_sample_stages asked files) (faults_choosers 1 kinds asked.rule files)
    (λ _ found. faults_fill_sample asked files)
faults_by Tiles kinds asked files =
    faults_first (step (enough 1 kinds asked.rule)) (λ _. fill_tiles_plan asked) files (IsChooserFault 1 kinds asked.rule) (fill_tiles_stages asked files) (faults_choosers 1 kinds asked.rule files)
    (λ _ found. faults_fill_tiles asked files)

-- the first fault of `fill`
pub faults_fill : (kinds : List RuleKind) (asked : RequestView) (files : List File) → Faults (fill_plan kinds asked) files (IsFirstFault (fill_order kinds asked files))
faults_fill kinds asked files = faults_by asked.source kinds asked files
