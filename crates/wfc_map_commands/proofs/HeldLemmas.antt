-- What the code says of a task that it holds is an answer to that task.
use Rattle.std.proofs.Common.{List, Some, sym, ◌≡◌}
use Rattle.wfc_choose.specs.Pick.{Rule}
use Rattle.wfc_map_commands.specs.FillAnswer.{fill_by}
use Rattle.wfc_map_commands.specs.FillCommand.{FillAnswers}
use Rattle.wfc_map_commands.specs.FillTask.{filled_by}
use Rattle.wfc_map_commands.specs.Held.{problem_in, rules_text, text_of_assignment}
use Rattle.wfc_map_commands.specs.LearnCommand.{LearnAnswers}
use Rattle.wfc_map_commands.specs.LearnTask.{learned_by}
use Rattle.wfc_map_commands.specs.declared.filling.Filled.{Filled}
use Rattle.wfc_map_commands.specs.declared.filling.Filled.TheVariants as filled
use Rattle.wfc_map_commands.specs.declared.learning.Learned.{Learned}
use Rattle.wfc_map_commands.specs.declared.learning.Learned.TheVariants as learned
use Rattle.wfc_reply.specs.Reply.{Answered, done_with}
use Rattle.wfc_words.specs.RequestView.{RequestView}

-- of `learn`
pub learn_said : (held : Learned) (answered : Answered) → answered ≡ done_with (rules_text held) → LearnAnswers (learned_by held) answered
learn_said (learned.Windows taught) answered is = sym is
learn_said (learned.Tiles set) answered is = sym is

-- of `fill`
pub fill_said : (rules : List Rule) (asked : RequestView) (held : Filled) (answered : Answered) → fill_by rules asked (text_of_assignment asked held) (problem_in held) ≡ Some answered → FillAnswers rules asked (filled_by asked held) answered
fill_said rules asked (filled.Windows made) answered is = is
fill_said rules asked (filled.Tiles made) answered is = is
