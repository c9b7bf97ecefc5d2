-- What holds of what `grow` works on, whatever the files are, and how the code ends that puts its text.
use Rattle.std.specs.List.{IsDistinct}
use Rattle.std.specs.Prelude.{Err, Ok, Result, ◌<◌, ◌≡◌, ◌≤◌, ◌⊎◌}
use Rattle.wfc_blocks.specs.Grown.{grown_of}
use Rattle.wfc_blocks.specs.Growth.{seed_of_block}
use Rattle.wfc_blocks.specs.StuckView.{StuckView}
use Rattle.wfc_blocks.specs.declared.grown.GrowFault.{GrowFault}
use Rattle.wfc_blocks.specs.declared.grown.Grown.{Grown}
use Rattle.wfc_blocks.specs.declared.grown.Grown.TheVariants as grown
use Rattle.wfc_choose.specs.Pick.{Rule}
use Rattle.wfc_grow_command.specs.GrowAnswer.{AnswersGrown, IsProblemOfStuck}
use Rattle.wfc_grow_command.specs.GrowTask.{GrowTask, area_asked, growing_plan}
use Rattle.wfc_grow_command.specs.declared.growing.Growing.{Growing}
use Rattle.wfc_model.specs.declared.TheConstants.{MAX_OUTPUT_SIDE}
use Rattle.wfc_outside.specs.Folder.{FolderView}
use Rattle.wfc_outside.specs.Sink.{SinkView}
use Rattle.wfc_picture.specs.Symbol.{same_symbol}
use Rattle.wfc_pins.specs.declared.fault.BuildFault.{BuildFault}
use Rattle.wfc_plan.specs.Fault.{status_of}
use Rattle.wfc_plan.specs.declared.fault.Fault.{Fault}
use Rattle.wfc_plan.specs.declared.fault.Fault.TheVariants.{Refused}
use Rattle.wfc_plan.specs.declared.fault.Refusal.TheVariants.{Build}
use Rattle.wfc_problem.specs.Network.{Network}
use Rattle.wfc_render.specs.Map.{IsWritten}
use Rattle.wfc_reply.specs.Ending.{EndsPut, Leaves}
use Rattle.wfc_reply.specs.Ends.{Replies}
use Rattle.wfc_reply.specs.Reply.{Answered, Reply}
use Rattle.wfc_reply.specs.declared.reply.Stop.{Stop}
use Rattle.wfc_reply.specs.declared.reply.CommandVerdict.{CommandVerdict}
use Rattle.wfc_runs.specs.Words.{words_of_seed}
use Rattle.wfc_search.specs.Ends.{EndsIn}
use Rattle.wfc_search.specs.declared.Outcome.TheVariants as outcome
use Rattle.wfc_task.specs.Lesson.{IsLesson}
use Rattle.wfc_task.specs.Sources.{window_side_of}
use Rattle.wfc_task.specs.Steps.{sample_layout}
use Rattle.wfc_words.specs.RequestView.{RequestView}

-- patterns of the side asked for, a palette of symbols that are apart, and the layout
pub record IsGrowing (asked : RequestView) (growing : Growing) : Type 0 where
  pub lesson : IsLesson growing.taught
  pub side : growing.taught.patterns.n ≡ window_side_of asked.source
  pub apart : IsDistinct same_symbol growing.taught.palette
  pub layout : sample_layout growing.taught.kind asked ≡ Ok growing.layout

-- what growth by a rule comes to, or its fault
abbrev pub growing_end : Rule → RequestView → Growing → Result Grown GrowFault
growing_end rule asked growing =
    grown_of growing.taught.patterns growing.taught.palette (area_asked asked) growing.lines.items rule asked.budget asked.seed

-- with these answers the code may end so behind its reading: in any folder, which stays as it is
abbrev pub EndsGrowing : (GrowTask → Answered → Type 0) → RequestView → Growing → SinkView → SinkView
    → Result CommandVerdict Stop → Type 0
EndsGrowing Answers asked growing old new ended =
    (folder : FolderView) → EndsPut (growing_plan asked growing) Answers folder folder old new ended

-- the run of a stuck block by this rule ends in no map of the problem that its lines make; its sides are those of a map
pub record IsStuckRun (rule : Rule) (asked : RequestView) (task : GrowTask) (stuck : StuckView) : Type 0 where
  pub P : Network
  pub problem : IsProblemOfStuck task stuck P
  pub ends : EndsIn P rule asked.budget (words_of_seed (seed_of_block asked.seed stuck.block)) outcome.NoMap
  pub some_width : 0 < stuck.block.width
  pub some_height : 0 < stuck.block.height
  pub width_limit : stuck.block.width ≤ MAX_OUTPUT_SIDE
  pub height_limit : stuck.block.height ≤ MAX_OUTPUT_SIDE

-- what is known of an end of growth, so that its text can be put: a map can be written, and a stuck block's run has no map
abbrev pub CanBePut : Rule → RequestView → GrowTask → Grown → Type 0
CanBePut rule asked task (grown.Map m) = IsWritten task.layout task.palette m
CanBePut rule asked task (grown.Stuck stuck) = IsStuckRun rule asked task stuck
CanBePut rule asked task grown.Spent = Unit {0}

-- the code that puts the text of an end of growth may end so
pub record PutsGrown (rule : Rule) (asked : RequestView) (task : GrowTask) (made : Grown) (old new : SinkView)
    (ended : Result CommandVerdict Stop) : Type 0 where
  pub reply : Reply
  pub replies : Replies (AnswersGrown rule asked task) made reply
  pub leaves : Leaves reply old new ended

-- the code that makes the problem wanted may give this: the problem or its fault, or memory ran out
abbrev pub GivesProblem : Result Network BuildFault → Result Network Fault → Type 0
GivesProblem (Ok P) (Ok made) = made ≡ P
GivesProblem (Ok P) (Err fault) = status_of fault ≡ 6
GivesProblem (Err why) (Ok made) = ⊥
GivesProblem (Err why) (Err fault) = (fault ≡ Refused (Build why)) ⊎ (status_of fault ≡ 6)
