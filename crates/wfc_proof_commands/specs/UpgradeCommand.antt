-- The command `upgrade`.
use Rattle.std.specs.Prelude.{List, Some, ℕ, ◌≡◌}
use Rattle.wfc_check.specs.declared.fault.CheckFault.{CheckFault}
use Rattle.wfc_lines.specs.Check.{text_of_check}
use Rattle.wfc_outside.specs.Folder.{File}
use Rattle.wfc_proof_commands.specs.Checking.{refutation_name}
use Rattle.wfc_proof_commands.specs.UpgradeOrder.{upgrade_order}
use Rattle.wfc_proof_commands.specs.UpgradeTask.{UpgradeTask, upgrade, upgrade_plan}
use Rattle.wfc_proof_commands.specs.Upgrading.{UpgradeWork, refutation_fault, upgrade_answer}
use Rattle.wfc_reply.specs.Command.{Command}
use Rattle.wfc_reply.specs.Reply.{Answered}
use Rattle.wfc_words.specs.RequestView.{RequestView}

-- the answer of `upgrade`
abbrev pub UpgradeAnswers : RequestView → UpgradeTask → Answered → Type 0
UpgradeAnswers asked (upgrade P bytes) answered = upgrade_answer asked P bytes (refutation_fault asked P bytes) ≡ answered

-- why it is no: the first fault of the file as a refutation
abbrev pub IsNotUpgraded : RequestView → List File → List ℕ → Type 0
IsNotUpgraded asked files text =
    (work : UpgradeWork asked files) × (fault : CheckFault) × (refutation_fault asked work.P work.bytes ≡ Some fault)
    × (text ≡ text_of_check fault (refutation_name asked))

-- the command that writes a refutation in format 2 once it is checked
abbrev pub upgrade_command : Command
upgrade_command = record {
  Task = UpgradeTask;
  plan = λ kinds asked. upgrade_plan asked;
  order = λ kinds asked files. upgrade_order asked files;
  Answers = λ rules asked task answered. UpgradeAnswers asked task answered;
  IsNo = λ rules asked files text. IsNotUpgraded asked files text;
  budget = λ asked. asked.budget;
}
