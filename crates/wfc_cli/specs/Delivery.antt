-- What leaves a call: the text of an answer, the line of the error stream, and the status.
use Rattle.std.specs.Prelude.{Bool, Err, List, None, Ok, Option, Result, Some, false, true, ℕ, ◌≡◌, ◌⊎◌}
use Rattle.wfc_cli.specs.ErrorLine.{command_status, fault_text}
use Rattle.wfc_lines.specs.Command.{text_of_command}
use Rattle.wfc_lines.specs.Line.{line}
use Rattle.wfc_lines.specs.Outcome.{out_failed_text}
use Rattle.wfc_outside.specs.Sink.{IsFaultAfterFront, SinkView, after_bytes}
use Rattle.wfc_plan.specs.Fault.{status_of}
use Rattle.wfc_reply.specs.Call.{Call}
use Rattle.wfc_reply.specs.Reply.{CutsOff, Reply, TakesWhole, verdict_status, verdict_text}
use Rattle.wfc_reply.specs.declared.reply.Stop.{Stop}
use Rattle.wfc_reply.specs.declared.reply.Stop.TheVariants.{Cut, Unanswered}
use Rattle.wfc_reply.specs.declared.reply.CommandVerdict.{CommandVerdict}
use Rattle.wfc_words.specs.RequestView.{RequestView}
use Rattle.wfc_words.specs.declared.fault.CommandFault.{CommandFault}

-- the stream took the line of the text, or a front of it and then met a counted fault
pub record IsTold (text : List ℕ) (old new : SinkView) : Type 0 where
  pub cases : (new ≡ after_bytes old (line text)) ⊎ IsFaultAfterFront old new (line text)

-- the sink that took these bytes, isn't finished, and has counted so many faults
abbrev pub open_sink : List ℕ → ℕ → SinkView
open_sink bytes faults =
    record { told = Some (record { bytes = bytes; finished = false }); faults = faults }

-- the stream is told the text, or there is none and it is as before
abbrev pub Tells : Option (List ℕ) → SinkView → SinkView → Type 0
Tells None old new = new ≡ old
Tells (Some text) old new = IsTold text old new

-- what the error stream is told of an ending, and the status
abbrev pub Says : RequestView → Result CommandVerdict Stop → SinkView → SinkView → ℕ → Type 0
Says asked (Ok verdict) old new status = Tells (verdict_text asked verdict) old new × (status ≡ verdict_status verdict)
Says asked (Err Cut) old new status = Tells (Some out_failed_text) old new × (status ≡ 5)
Says asked (Err (Unanswered fault)) old new status =
    Tells (Some (fault_text asked fault)) old new × (status ≡ status_of fault)

-- what leaves a call: its status, the text for the sink of the answer, and the text of the line for the error stream
pub record Said : Type 0 where
  pub status : ℕ
  pub text : Option (List ℕ)
  pub whole : Bool
  pub told : Option (List ℕ)

-- what a reply says
abbrev pub said_of : RequestView → Reply → Said
said_of asked (Ok answered) = record {
  status = verdict_status answered.verdict;
  text = answered.text;
  whole = answered.whole;
  told = verdict_text asked answered.verdict;
}
said_of asked (Err fault) = record { status = status_of fault; text = None; whole = true; told = Some (fault_text asked fault) }

-- what words say that were read as no request
abbrev pub said_of_words : CommandFault → Said
said_of_words fault = record { status = command_status fault; text = None; whole = true; told = Some (text_of_command fault) }

-- all of it was put
pub record IsDelivered (said : Said) (call : Call) : Type 0 where
  pub taken : TakesWhole said.whole said.text call.before.out call.after.out
  pub told : Tells said.told call.before.err call.after.err
  pub same_status : call.status ≡ said.status

-- a front of the text was put, and the stream is told of the sink
pub record IsPutInPart (said : Said) (call : Call) : Type 0 where
  pub front : CutsOff said.text call.before.out call.after.out
  pub told : Tells (Some out_failed_text) call.before.err call.after.err
  pub five : call.status ≡ 5

-- what a call does to its streams that says this, and its status
abbrev pub Delivers : Said → Call → Type 0
Delivers said call = IsDelivered said call ⊎ IsPutInPart said call
