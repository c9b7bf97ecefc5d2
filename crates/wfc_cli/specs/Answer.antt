-- What a call of the program may answer, and why.
use Rattle.std.specs.Prelude.{Err, Ok, Result, ◌≡◌, ◌⊎◌}
use Rattle.wfc_cli.specs.Commands.{asked_command}
use Rattle.wfc_cli.specs.Delivery.{Delivers, said_of, said_of_words}
use Rattle.wfc_reply.specs.Call.{Call}
use Rattle.wfc_reply.specs.Ends.{EndsBy}
use Rattle.wfc_reply.specs.Reply.{Reply}
use Rattle.wfc_words.specs.Request.{request_of}
use Rattle.wfc_words.specs.RequestView.{RequestView}
use Rattle.wfc_words.specs.declared.fault.CommandFault.{CommandFault}
use Rattle.wfc_words.specs.declared.fault.CommandFault.TheVariants.{NoMemory}

-- what a call for this request may do to its devices, and its status
pub record IsAnswerTo (call : Call) (asked : RequestView) : Type 0 where
  pub reply : Reply
  pub ends : EndsBy (asked_command asked) call.rules asked call.before.folder call.after.folder reply
  pub delivers : Delivers (said_of asked reply) call

-- what a call does whose words were read as no request
pub record IsRefusedCall (fault : CommandFault) (call : Call) : Type 0 where
  pub folder : call.after.folder ≡ call.before.folder
  pub delivers : Delivers (said_of_words fault) call

-- what a call may do, by what its words were read as: a request, or none and why
abbrev pub AnswersAsked : Call → Result RequestView CommandFault → Type 0
AnswersAsked call (Ok asked) = IsAnswerTo call asked
AnswersAsked call (Err fault) = IsRefusedCall fault call

-- what a call may do to its devices, and its status; memory may run out over the words
pub record IsAnswer (call : Call) : Type 0 where
  pub answers : AnswersAsked call (request_of call.words) ⊎ IsRefusedCall NoMemory call
