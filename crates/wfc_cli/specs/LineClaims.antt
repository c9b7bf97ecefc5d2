-- What the error stream is told with each status, and that nothing else depends on that stream.
use Rattle.std.specs.Prelude.{Err, List, Option, ℕ, ◌↔◌, ◌≡◌, ◌≢◌, ◌⊎◌}
use Rattle.wfc_choose.specs.Pick.{Rule}
use Rattle.wfc_cli.specs.Answer.{IsAnswer}
use Rattle.wfc_cli.specs.Commands.{asked_command, command_of, task_of}
use Rattle.wfc_cli.specs.Delivery.{IsTold, Tells}
use Rattle.wfc_cli.specs.ErrorLine.{command_status, fault_text}
use Rattle.wfc_cli.specs.Theorem.{IsFileFault}
use Rattle.wfc_lines.specs.Command.{text_of_command}
use Rattle.wfc_lines.specs.Outcome.{no_memory_text, out_failed_text, text_of_budget}
use Rattle.wfc_outside.specs.Count.{HasRisen}
use Rattle.wfc_outside.specs.Folder.{File}
use Rattle.wfc_outside.specs.Sink.{SinkView}
use Rattle.wfc_plan.specs.Fault.{status_of}
use Rattle.wfc_plan.specs.declared.fault.Fault.{Fault}
use Rattle.wfc_plan.specs.declared.fault.Fault.TheVariants.{Unread}
use Rattle.wfc_reply.specs.Asking.{IsGiven}
use Rattle.wfc_reply.specs.Call.{Call, with_error_stream}
use Rattle.wfc_reply.specs.Reply.{IsNoStatus}
use Rattle.wfc_words.specs.Request.{request_of}
use Rattle.wfc_words.specs.RequestView.{RequestView}
use Rattle.wfc_words.specs.declared.fault.CommandFault.{CommandFault}
use Rattle.wfc_words.specs.declared.kinds.CommandKind.{CommandKind}

-- why a call ends with its status, and the text of the line that says so: the answer is no, the
-- budget is spent, the request has a first fault, a file can't be read, the sink of the answer
-- failed, or memory ran out
pub data IsReason (call : Call) (asked : RequestView) (files : List File) (text : List ℕ) : Type 0 where
  says_no : IsNoStatus call.status → (asked_command asked).IsNo call.rules asked files text → IsReason call asked files text
  says_spent : call.status ≡ 2 → text ≡ text_of_budget ((asked_command asked).budget asked)
      → IsReason call asked files text
  says_fault : (fault : Fault) → task_of call.rules asked files ≡ Err fault → call.status ≡ status_of fault
      → text ≡ fault_text asked fault → IsReason call asked files text
  says_file : (file : IsFileFault call asked) → call.status ≡ 5
      → text ≡ fault_text asked (Unread file.source file.fault) → IsReason call asked files text
  says_out : HasRisen call.before.out.faults call.after.out.faults → call.status ≡ 5 → text ≡ out_failed_text
      → IsReason call asked files text
  says_short : call.status ≡ 6 → text ≡ no_memory_text → IsReason call asked files text

-- the error stream is told the line of words that are no request, or that memory ran out
abbrev pub TellsWords : CommandFault → Call → Type 0
TellsWords fault call =
    ((call.status ≡ command_status fault) × IsTold (text_of_command fault) call.before.err call.after.err)
    ⊎ ((call.status ≡ 6) × IsTold no_memory_text call.before.err call.after.err)

-- the error stream is told the line of the reason
abbrev pub TellsReason : Call → RequestView → List File → Type 0
TellsReason call asked files =
    (text : List ℕ) × IsReason call asked files text × IsTold text call.before.err call.after.err

-- at status 0 the error stream is as before; at each other it took a line, or a front of one and then a fault of the stream
-- was counted: the line of words that are no request, and over told files that of the status
pub record TellsStatus (call : Call) : Type 0 where
  pub nothing : call.status ≡ 0 → call.after.err ≡ call.before.err
  pub one_line : call.status ≢ 0 → (text : List ℕ) × IsTold text call.before.err call.after.err
  pub no_request : (fault : CommandFault) → request_of call.words ≡ Err fault → TellsWords fault call
  pub request : (asked : RequestView) (files : List File) → IsGiven call asked files → call.status ≢ 0
      → TellsReason call asked files

-- there is a line, or none, that the error stream was told, and beside each other stream that is
-- told it, whatever its faults, the same folder, output and status are an answer
abbrev pub IsApartFromErr : Call → Type 0
IsApartFromErr call =
    (text : Option (List ℕ)) × Tells text call.before.err call.after.err
    × ((old new : SinkView) → Tells text old new → IsAnswer (with_error_stream call old new))

-- where the answer of the command is no, this text says so, and no other
abbrev pub IsNoSaidBy : CommandKind → List ℕ → Type 0
IsNoSaidBy kind words =
    (rules : List Rule) (asked : RequestView) (files : List File) (text : List ℕ)
    → (command_of kind).IsNo rules asked files text ↔ (text ≡ words)

-- the budget of the command's run is the one asked for
abbrev pub HasAskedBudget : CommandKind → Type 0
HasAskedBudget kind = (asked : RequestView) → (command_of kind).budget asked ≡ asked.budget
