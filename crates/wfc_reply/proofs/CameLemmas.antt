-- What a call of a command came to.
use Rattle.std.proofs.Common.{List, Ok, ◌≡◌}
use Rattle.wfc_choose.specs.Pick.{Rule}
use Rattle.wfc_outside.specs.Folder.{File}
use Rattle.wfc_plan.specs.Plan.{outcome}
use Rattle.wfc_reply.proofs.VerdictLemmas.{five_apart}
use Rattle.wfc_reply.specs.Call.{Call}
use Rattle.wfc_reply.specs.Choosers.{kinds_of}
use Rattle.wfc_reply.specs.Command.{Command}
use Rattle.wfc_reply.specs.Reply.{Answered, CutsOff, HasAnswer, TakesWhole, verdict_status}
use Rattle.wfc_words.specs.RequestView.{RequestView}

-- an answer of a command that was given, with its task
pub record HasAnswered (command : Command) (rules : List Rule) (asked : RequestView) (files : List File) (answered : Answered) : Type 0 where
  pub task : command.Task
  pub is : outcome (command.plan (kinds_of rules) asked) files ≡ Ok task
  pub answers : command.Answers rules asked task answered

-- a call that came to an answer of a command, and what it did to the sink
pub data CameTo (command : Command) (call : Call) (asked : RequestView) (files : List File) : Type 0 where
  whole : (answered : Answered) → HasAnswered command call.rules asked files answered → call.status ≡ verdict_status answered.verdict → TakesWhole answered.whole answered.text call.before.out call.after.out → CameTo command call asked files
  cut : (answered : Answered) → HasAnswered command call.rules asked files answered → call.status ≡ 5 → CutsOff answered.text call.before.out call.after.out → CameTo command call asked files
  none : (HasAnswer call.status → ⊥) → call.after.out ≡ call.before.out → CameTo command call asked files

-- an answer that a call came to and put whole
pub record CameWith (command : Command) (call : Call) (asked : RequestView) (files : List File) : Type 0 where
  pub answered : Answered
  pub has : HasAnswered command call.rules asked files answered
  pub same_status : call.status ≡ verdict_status answered.verdict
  pub taken : TakesWhole answered.whole answered.text call.before.out call.after.out

-- so it is with each status of an answer
pub came_with : (command : Command) (call : Call) (asked : RequestView) (files : List File) → CameTo command call asked files → HasAnswer call.status → CameWith command call asked files
came_with command call asked files (whole answered has same takes) low = record { answered = answered; has = has; same_status = same; taken = takes }
came_with command call asked files (cut answered has five front) low = absurd (five_apart call.status five low)
came_with command call asked files (none high same) low = absurd (high low)
