-- The command `check`.
use Rattle.std.specs.Prelude.{List, Some, ℕ, ◌≡◌}
use Rattle.wfc_check.specs.declared.fault.CheckFault.{CheckFault}
use Rattle.wfc_lines.specs.Check.{text_of_check}
use Rattle.wfc_outside.specs.Folder.{File}
use Rattle.wfc_proof_commands.specs.CheckAnswer.{check_answer}
use Rattle.wfc_proof_commands.specs.CheckGiven.{IsCheckTask}
use Rattle.wfc_proof_commands.specs.CheckOrder.{check_order}
use Rattle.wfc_proof_commands.specs.CheckTask.{CheckTask, check, check_plan}
use Rattle.wfc_proof_commands.specs.Checking.{flat_proofs, refutation_name}
use Rattle.wfc_proof_commands.specs.ProofKind.{ProofKind}
use Rattle.wfc_reply.specs.Command.{Command}
use Rattle.wfc_reply.specs.Reply.{Answered}
use Rattle.wfc_words.specs.RequestView.{RequestView}

-- the answer of `check`
abbrev pub CheckAnswers : CheckTask → Answered → Type 0
CheckAnswers (check found) answered = check_answer found ≡ answered

-- the text says why the answer is no: the first fault of the file as a refutation
abbrev pub IsNoRefutation : ProofKind → RequestView → List File → List ℕ → Type 0
IsNoRefutation space asked files text =
    (fault : CheckFault) × IsCheckTask space asked files (Some fault)
    × (text ≡ text_of_check fault (refutation_name asked))

-- the command that checks refutations, for the problems of a kind of maps
abbrev pub checks : ProofKind → Command
checks space = record {
  Task = CheckTask;
  plan = λ kinds asked. check_plan space asked;
  order = λ kinds asked files. check_order space asked files;
  Answers = λ rules asked task answered. CheckAnswers task answered;
  IsNo = λ rules asked files text. IsNoRefutation space asked files text;
  budget = λ asked. asked.budget;
}

-- the command that checks refutations of problems of windows and of tiles
abbrev pub check_command : Command
check_command = checks flat_proofs
