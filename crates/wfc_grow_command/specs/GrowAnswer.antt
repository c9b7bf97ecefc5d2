-- What `grow` answers to its task.
use Rattle.std.specs.Prelude.{List, None, Ok, Option, Some, false, length, take, true, ℕ, ◌++◌, ◌≡◌, ◌≤◌, ◌⊎◌}
use Rattle.wfc_blocks.specs.Blocks.{output_of_block}
use Rattle.wfc_blocks.specs.Growth.{seed_of_block}
use Rattle.wfc_blocks.specs.Grown.{grown_of}
use Rattle.wfc_blocks.specs.StuckView.{StuckView}
use Rattle.wfc_blocks.specs.declared.grown.Grown.{Grown}
use Rattle.wfc_blocks.specs.declared.grown.Grown.TheVariants as grown
use Rattle.wfc_choose.specs.Pick.{Rule}
use Rattle.wfc_grow_command.specs.GrowTask.{GrowTask, area_asked}
use Rattle.wfc_grow_command.specs.StuckText.{block_writing, stuck_text}
use Rattle.wfc_overlap.specs.Built.{picture_problem}
use Rattle.wfc_problem.specs.Network.{Network}
use Rattle.wfc_proof.specs.declared.Line.{Line}
use Rattle.wfc_render.specs.Map.{map_text}
use Rattle.wfc_reply.specs.Putting.{IsTextBrokenOff}
use Rattle.wfc_reply.specs.Reply.{Answered, done_with}
use Rattle.wfc_reply.specs.RunText.{IsBegunBy, IsToldBy, writing_text}
use Rattle.wfc_reply.specs.declared.reply.CommandVerdict.{CommandVerdict}
use Rattle.wfc_reply.specs.declared.reply.CommandVerdict.TheVariants.{Spent, Stuck}
use Rattle.wfc_runs.specs.Words.{words_of_seed}
use Rattle.wfc_search.specs.Run.{State, start}
use Rattle.wfc_search.specs.declared.Outcome.TheVariants as outcome
use Rattle.wfc_words.specs.RequestView.{RequestView}

-- how the map of a task is grown by a rule
abbrev pub IsGrowthBy : RequestView → GrowTask → Rule → Grown → Type 0
IsGrowthBy asked task rule made =
    grown_of task.patterns task.palette (area_asked asked) task.lines rule asked.budget asked.seed ≡ Ok made

-- the verdict of a stuck block
abbrev pub stuck_verdict : StuckView → CommandVerdict
stuck_verdict stuck = Stuck stuck.block.x stuck.block.y

-- the problem of a stuck block is that of the lines of its pins
abbrev pub IsProblemOfStuck : GrowTask → StuckView → Network → Type 0
IsProblemOfStuck task stuck P = picture_problem task.patterns task.palette (output_of_block stuck.block) stuck.pins ≡ Ok P

-- the first state of a stuck block's run
abbrev pub stuck_start : RequestView → StuckView → State
stuck_start asked stuck = start (words_of_seed (seed_of_block asked.seed stuck.block))

-- the text of a stuck block with these lines of its run
abbrev pub stuck_run_text : RequestView → StuckView → Network → List Line → List ℕ
stuck_run_text asked stuck P lines = stuck_text stuck ++ writing_text (block_writing asked stuck.block) P lines

-- the block, its pins, and all lines of its run, which ends in no map
pub record StuckWhole (rule : Rule) (asked : RequestView) (task : GrowTask) (stuck : StuckView) (answered : Answered) : Type 0 where
  pub P : Network
  pub problem : IsProblemOfStuck task stuck P
  pub lines : List Line
  pub told : IsToldBy rule asked.budget P (stuck_start asked stuck) outcome.NoMap lines
  pub is : answered ≡ record { verdict = stuck_verdict stuck; text = Some (stuck_run_text asked stuck P lines); whole = true }

-- the block, its pins, and a front of the text of some of the first lines of its run
pub record StuckFront (rule : Rule) (asked : RequestView) (task : GrowTask) (stuck : StuckView) (answered : Answered) : Type 0 where
  pub P : Network
  pub problem : IsProblemOfStuck task stuck P
  pub lines : List Line
  pub begun : IsBegunBy rule asked.budget P (stuck_start asked stuck) lines
  pub count : ℕ
  pub within : count ≤ length lines
  pub bytes : ℕ
  pub broken : IsTextBrokenOff (block_writing asked stuck.block) P (take count lines) bytes
  pub front : answered.whole ≡ false
  pub text : answered.text
      ≡ Some (stuck_text stuck ++ take bytes (writing_text (block_writing asked stuck.block) P (take count lines)))

-- the block and its pins alone, of which a failed sink took a front
pub record StuckCut (stuck : StuckView) (answered : Answered) : Type 0 where
  pub front : answered.whole ≡ false
  pub text : answered.text ≡ Some (stuck_text stuck)

-- the answer to an end of growth
abbrev pub AnswersGrown : Rule → RequestView → GrowTask → Grown → Answered → Type 0
AnswersGrown rule asked task (grown.Map m) answered = answered ≡ done_with (map_text task.layout task.palette m)
AnswersGrown rule asked task (grown.Stuck stuck) answered =
    StuckWhole rule asked task stuck answered ⊎ (StuckFront rule asked task stuck answered ⊎ StuckCut stuck answered)
AnswersGrown rule asked task grown.Spent answered =
    answered ≡ record { verdict = Spent asked.budget; text = None; whole = true }

-- an answer of `grow` by this rule, if there is one
abbrev pub GrowsBy : Option Rule → RequestView → GrowTask → Answered → Type 0
GrowsBy None asked task answered = ⊥
GrowsBy (Some rule) asked task answered =
    (made : Grown) × IsGrowthBy asked task rule made × AnswersGrown rule asked task made answered
