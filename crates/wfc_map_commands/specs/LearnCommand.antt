-- The command `learn`.
use Rattle.std.specs.Prelude.{◌≡◌}
use Rattle.wfc_map_commands.specs.LearnOrder.{learn_order}
use Rattle.wfc_map_commands.specs.LearnTask.{LearnTask, learn, learn_plan, learn_tiles}
use Rattle.wfc_render.specs.Learned.{learned_text}
use Rattle.wfc_render.specs.LearnedTiles.{learned_tiles_text}
use Rattle.wfc_reply.specs.Command.{Command}
use Rattle.wfc_reply.specs.Reply.{Answered, done_with}

-- an answer of `learn`: the text of the rules
abbrev pub LearnAnswers : LearnTask → Answered → Type 0
LearnAnswers (learn patterns palette) answered = done_with (learned_text patterns palette) ≡ answered
LearnAnswers (learn_tiles set) answered = done_with (learned_tiles_text set) ≡ answered

-- which is never no
abbrev pub learn_command : Command
learn_command = record {
  Task = LearnTask;
  plan = λ kinds asked. learn_plan asked;
  order = λ kinds asked files. learn_order asked files;
  Answers = λ rules asked task answered. LearnAnswers task answered;
  IsNo = λ rules asked files text. ⊥;
  budget = λ asked. asked.budget;
}
