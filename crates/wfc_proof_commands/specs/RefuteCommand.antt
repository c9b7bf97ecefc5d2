-- The command `refute`.
use Rattle.std.specs.Prelude.{List, ◌≡◌}
use Rattle.wfc_choose.specs.Pick.{Rule}
use Rattle.wfc_lines.specs.Outcome.{map_exists_text}
use Rattle.wfc_proof_commands.specs.Checking.{flat_proofs}
use Rattle.wfc_proof_commands.specs.ProofKind.{ProofKind}
use Rattle.wfc_proof_commands.specs.RefuteOrder.{refute_order}
use Rattle.wfc_proof_commands.specs.RefuteTask.{RefuteTask, refute, refute_plan}
use Rattle.wfc_proof_commands.specs.Refuting.{RefutesBy}
use Rattle.wfc_reply.specs.Choosers.{first_rule}
use Rattle.wfc_reply.specs.Command.{Command}
use Rattle.wfc_reply.specs.Reply.{Answered}
use Rattle.wfc_words.specs.RequestView.{RequestView}

-- an answer of `refute`, by the rules of the choosers: the text of the lines that the run tells
abbrev pub RefuteAnswers : ProofKind → List Rule → RequestView → RefuteTask → Answered → Type 0
RefuteAnswers space rules asked (refute P) answered = RefutesBy space (first_rule asked.rule rules) asked P answered

-- it is no where there is a map
abbrev pub refutes : ProofKind → Command
refutes space = record {
  Task = RefuteTask;
  plan = refute_plan space;
  order = refute_order space;
  Answers = RefuteAnswers space;
  IsNo = λ rules asked files text. text ≡ map_exists_text;
  budget = λ asked. asked.budget;
}

-- of windows and of tiles
abbrev pub refute_command : Command
refute_command = refutes flat_proofs
