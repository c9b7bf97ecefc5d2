-- The words of the main theorem on a call of the program.
use Rattle.std.specs.Prelude.{Err, IsErr, List, Ok, Some, ℕ, ◌≡◌, ◌≢◌, ◌⊎◌}
use Rattle.wfc_cli.specs.Commands.{AnswersTask, asked_command, plan_of, task_of}
use Rattle.wfc_cli.specs.Delivery.{IsDelivered, said_of}
use Rattle.wfc_outside.specs.Count.{HasRisen}
use Rattle.wfc_outside.specs.Folder.{File, IsFaultOf}
use Rattle.wfc_outside.specs.declared.whole.ReadFault.{ReadFault}
use Rattle.wfc_outside.specs.declared.whole.ReadFault.TheVariants as reading
use Rattle.wfc_plan.specs.Fault.{status_of}
use Rattle.wfc_plan.specs.Reaching.{IsDeviceCause, Reaches}
use Rattle.wfc_plan.specs.declared.fault.Fault.{Fault}
use Rattle.wfc_plan.specs.declared.fault.Fault.TheVariants.{Unread}
use Rattle.wfc_plan.specs.declared.fault.Source.{Source}
use Rattle.wfc_reply.specs.Asking.{IsGiven}
use Rattle.wfc_reply.specs.Call.{Call}
use Rattle.wfc_reply.specs.Ends.{Replies}
use Rattle.wfc_reply.specs.Reply.{Answered}
use Rattle.wfc_words.specs.Request.{request_of}
use Rattle.wfc_words.specs.RequestView.{RequestView}

-- the words are no request
abbrev pub IsNoCommand : Call → Type 0
IsNoCommand call = IsErr (request_of call.words)

-- the first fault of the request over these files has the status of the call
abbrev pub IsRefusedWith : Call → RequestView → List File → Type 0
IsRefusedWith call asked files =
    (fault : Fault) × (task_of call.rules asked files ≡ Err fault) × (status_of fault ≡ call.status)

-- where the folder tells its files, that the file is missing is the first fault of the request
abbrev pub IsFirstMissing : Call → RequestView → Source → Type 0
IsFirstMissing call asked source =
    (files : List File) → call.before.folder.contents ≡ Some files
    → task_of call.rules asked files ≡ Err (Unread source reading.Missing)

-- a file that the request comes to, no fault being before its reading, is missing, and then that is
-- the first fault, or a fault of it was counted
pub record IsFileFault (call : Call) (asked : RequestView) : Type 0 where
  pub source : Source
  pub name : List ℕ
  pub fault : ReadFault
  pub reached : Reaches (plan_of call.rules asked) call.before.folder source name
  pub cause : IsDeviceCause fault call.before.folder call.after.folder name
  pub first : fault ≡ reading.Missing → IsFirstMissing call asked source

-- a file of the request is at fault, and the sink of the answer is as before, or a fault of that sink was counted
abbrev pub IsDeviceFault : Call → Type 0
IsDeviceFault call =
    (asked : RequestView) × (request_of call.words ≡ Ok asked)
    × ((IsFileFault call asked × (call.after.out ≡ call.before.out))
    ⊎ HasRisen call.before.out.faults call.after.out.faults)

-- no fault of a file that the request comes to, or of the sink of the answer, was counted
pub record NoneCounted (call : Call) (asked : RequestView) : Type 0 where
  pub files : (source : Source) (name : List ℕ)
      → Reaches (plan_of call.rules asked) call.before.folder source name
      → IsFaultOf call.before.folder call.after.folder name → ⊥
  pub out : HasRisen call.before.out.faults call.after.out.faults → ⊥

-- the folder is as before, and no fault of the sink of the answer was counted
pub record IsQuiet (call : Call) : Type 0 where
  pub folder : call.after.folder ≡ call.before.folder
  pub out : call.after.out.faults ≡ call.before.out.faults

-- the status is one of those that leave the sink of the answer as it is
abbrev pub IsWithoutAnswer : ℕ → Type 0
IsWithoutAnswer status = (status ≡ 3) ⊎ ((status ≡ 4) ⊎ ((status ≡ 6) ⊎ (status ≡ 7)))

-- the answer to the task was put whole
abbrev pub IsAnswered : Call → (asked : RequestView) → (asked_command asked).Task → Type 0
IsAnswered call asked task =
    (answered : Answered) × Replies (AnswersTask call.rules asked) task (Ok answered)
    × IsDelivered (said_of asked (Ok answered)) call

-- ---- the clauses of any command

-- status 3 comes only where the words are no request
abbrev pub RefusesWords : Call → Type 0
RefusesWords call = call.status ≡ 3 → IsNoCommand call

-- words that are no request have it, or memory ran out
abbrev pub HasRefusedWords : Call → Type 0
HasRefusedWords call = IsNoCommand call → (call.status ≡ 3) ⊎ (call.status ≡ 6)

-- statuses 4 and 7: where the files are told, the first fault of the task has the status of the call
abbrev pub HasFirstFault : Call → Type 0
HasFirstFault call =
    (call.status ≡ 4) ⊎ (call.status ≡ 7) → (asked : RequestView) (files : List File) → IsGiven call asked files
    → IsRefusedWith call asked files

-- status 5 comes only from a device
abbrev pub HasDeviceFault : Call → Type 0
HasDeviceFault call = call.status ≡ 5 → IsDeviceFault call

-- at each status but 5 no count rose
abbrev pub CountsStand : Call → Type 0
CountsStand call = call.status ≢ 5 → IsQuiet call

-- without an answer the sink is as before
abbrev pub KeepsOut : Call → Type 0
KeepsOut call = IsWithoutAnswer call.status → call.after.out ≡ call.before.out

-- what holds of the first fault where no fault is counted: the call has its status and writes
-- nothing, or memory ran out
abbrev pub IsRefusedFirst : Call → Type 0
IsRefusedFirst call =
    (asked : RequestView) (files : List File) → IsGiven call asked files → NoneCounted call asked
    → (fault : Fault) → task_of call.rules asked files ≡ Err fault
    → ((call.status ≡ status_of fault) × (call.after.out ≡ call.before.out)) ⊎ (call.status ≡ 6)

-- where no fault is counted and there is a task, its answer is put whole, or memory ran out
abbrev pub IsComplete : Call → Type 0
IsComplete call =
    (asked : RequestView) (files : List File) → IsGiven call asked files → NoneCounted call asked
    → (task : (asked_command asked).Task) → task_of call.rules asked files ≡ Ok task
    → IsAnswered call asked task ⊎ (call.status ≡ 6)
