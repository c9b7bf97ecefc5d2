-- What is looked at for `grow`, in which order.
use Rattle.std.specs.Prelude.{List, [], ℕ, ◌<◌, ◌∷◌, ◌≡◌}
use Rattle.wfc_blocks.specs.Blocks.{block_at, block_count, output_of_block}
use Rattle.wfc_blocks.specs.declared.TheConstants.{MAX_BLOCKS}
use Rattle.wfc_choose.specs.declared.RuleKind.{RuleKind}
use Rattle.wfc_grow_command.specs.GrowTask.{area_asked}
use Rattle.wfc_grow_command.specs.declared.growing.TheConstants.{GROW_CHOOSERS}
use Rattle.wfc_outside.specs.Folder.{File}
use Rattle.wfc_overlap.specs.Bridge.{window_pair_count}
use Rattle.wfc_plan.specs.Stages.{IsChooserFault, IsNamedFault, IsReadingFault, TaskStage}
use Rattle.wfc_plan.specs.declared.fault.Fault.{Fault}
use Rattle.wfc_plan.specs.declared.fault.Fault.TheVariants.{Refused}
use Rattle.wfc_plan.specs.declared.fault.Refusal.TheVariants as refusals
use Rattle.wfc_plan.specs.declared.fault.Source.TheVariants.{Pins, Sample}
use Rattle.wfc_task.specs.Stages.{IsCountFault, IsFormFault, IsLayoutFault, IsLearnFault, IsPinFault}
use Rattle.wfc_task.specs.Stages.{IsPinsFault, IsSizeFault, IsSymbolsFault, Teaches}
use Rattle.wfc_task.specs.declared.lesson.Taught.{Taught}
use Rattle.wfc_words.specs.RequestView.{RequestView}

-- so many blocks are too many
pub record IsManyFault (count : ℕ) (fault : Fault) : Type 0 where
  pub many : MAX_BLOCKS < count
  pub is : fault ≡ Refused (refusals.TooManyBlocks count)

-- the map has too many blocks
abbrev pub IsBlocksFault : RequestView → List File → TaskStage
IsBlocksFault asked files fault =
    (lesson : Taught) × Teaches asked files lesson
    × IsManyFault (block_count lesson.patterns.n (area_asked asked)) fault

-- the first block, which is the largest, has too many pairs of a place and a pattern
abbrev pub IsFirstBlockFault : RequestView → List File → TaskStage
IsFirstBlockFault asked files fault =
    (lesson : Taught) × Teaches asked files lesson
    × IsCountFault (window_pair_count lesson.patterns (output_of_block (block_at lesson.patterns.n (area_asked asked) 0))) fault

-- what is looked at for `grow`, in this order
abbrev pub grow_order : List RuleKind → RequestView → List File → List TaskStage
grow_order kinds asked files =
    IsChooserFault GROW_CHOOSERS kinds asked.rule
    ∷ IsReadingFault Sample files asked.file
    ∷ IsFormFault asked files
    ∷ IsSymbolsFault asked files
    ∷ IsLearnFault asked files
    ∷ IsLayoutFault asked files
    ∷ IsNamedFault Pins files asked.pins
    ∷ IsPinsFault files asked.pins
    ∷ IsSizeFault asked files
    ∷ IsBlocksFault asked files
    ∷ IsFirstBlockFault asked files
    ∷ IsPinFault asked files
    ∷ []
