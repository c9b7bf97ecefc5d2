-- The command `grow`.
use Rattle.std.specs.Prelude.{List, ℕ, ◌≡◌}
use Rattle.wfc_blocks.specs.StuckView.{StuckView}
use Rattle.wfc_blocks.specs.declared.grown.Grown.TheVariants as grown
use Rattle.wfc_choose.specs.Pick.{Rule}
use Rattle.wfc_grow_command.specs.GrowAnswer.{GrowsBy, IsGrowthBy}
use Rattle.wfc_grow_command.specs.GrowClaims.{GrowWork}
use Rattle.wfc_grow_command.specs.GrowOrder.{grow_order}
use Rattle.wfc_grow_command.specs.GrowTask.{GrowTask, grow_plan}
use Rattle.wfc_lines.specs.Grow.{text_of_stuck}
use Rattle.wfc_outside.specs.Folder.{File}
use Rattle.wfc_reply.specs.Choosers.{first_rule}
use Rattle.wfc_reply.specs.Command.{Command}
use Rattle.wfc_reply.specs.Reply.{Answered}
use Rattle.wfc_words.specs.RequestView.{RequestView}

-- an answer of `grow`, by the rules of the choosers
abbrev pub GrowAnswers : List Rule → RequestView → GrowTask → Answered → Type 0
GrowAnswers rules asked task answered = GrowsBy (first_rule asked.rule rules) asked task answered

-- the line that names the block at which growth stops
abbrev pub IsStuckLine : List Rule → RequestView → List File → List ℕ → Type 0
IsStuckLine rules asked files text =
    (work : GrowWork rules asked files) × (stuck : StuckView)
    × IsGrowthBy asked work.task work.rule (grown.Stuck stuck)
    × (text ≡ text_of_stuck stuck.block.x stuck.block.y)

-- the answer is no where a block is stuck
abbrev pub grow_command : Command
grow_command = record {
  Task = GrowTask;
  plan = grow_plan;
  order = grow_order;
  Answers = GrowAnswers;
  IsNo = IsStuckLine;
  budget = λ asked. asked.budget;
}
