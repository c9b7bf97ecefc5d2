-- What `upgrade` writes: the proof of a refutation in format 2.
use Rattle.std.specs.Prelude.{Err, List, None, Ok, Option, Result, Some, true, ℕ, ◌≡◌}
use Rattle.wfc_check.specs.Text.{checked}
use Rattle.wfc_check.specs.declared.fault.CheckFault.{CheckFault}
use Rattle.wfc_outside.specs.Folder.{File}
use Rattle.wfc_outside.specs.Sink.{SinkView}
use Rattle.wfc_plan.specs.Fault.{status_of}
use Rattle.wfc_problem.specs.Network.{Network}
use Rattle.wfc_proof.specs.Upgrade.{upgraded_text}
use Rattle.wfc_proof_commands.specs.Checking.{shape_asked}
use Rattle.wfc_proof_commands.specs.UpgradeGiven.{IsUpgradeTask}
use Rattle.wfc_reply.specs.Reply.{Answered, CutsOff, Takes, done_with}
use Rattle.wfc_reply.specs.declared.reply.Stop.{Stop}
use Rattle.wfc_reply.specs.declared.reply.Stop.TheVariants.{Cut, Unanswered}
use Rattle.wfc_reply.specs.declared.reply.CommandVerdict.{CommandVerdict}
use Rattle.wfc_reply.specs.declared.reply.CommandVerdict.TheVariants.{Unaccepted}
use Rattle.wfc_words.specs.RequestView.{RequestView}

-- what `upgrade` works on over these files: the problem, and the bytes of the file
pub record UpgradeWork (asked : RequestView) (files : List File) : Type 0 where
  pub P : Network
  pub bytes : List ℕ
  pub task : IsUpgradeTask asked files P bytes

-- the fault that a text has, if it has one
abbrev pub fault_in : Result (Unit {0}) CheckFault → Option CheckFault
fault_in (Ok done) = None
fault_in (Err fault) = Some fault

-- the first fault of these bytes as a refutation of the problem and of the shape asked for
abbrev pub refutation_fault : RequestView → Network → List ℕ → Option CheckFault
refutation_fault asked P bytes = fault_in (checked P (shape_asked asked) bytes)

-- the text in format 2 of the proof that these bytes are the text of
abbrev pub same_proof_text : RequestView → Network → List ℕ → List ℕ
same_proof_text asked P bytes = upgraded_text P (shape_asked asked) bytes

-- the answer of `upgrade`, where this is the first fault of the bytes, or there is none
abbrev pub upgrade_answer : RequestView → Network → List ℕ → Option CheckFault → Answered
upgrade_answer asked P bytes None = done_with (same_proof_text asked P bytes)
upgrade_answer asked P bytes (Some fault) = record { verdict = Unaccepted fault; text = None; whole = true }

-- the answer was put, it was cut off, or memory ran out before it
abbrev pub Answering : Answered → SinkView → SinkView → Result CommandVerdict Stop → Type 0
Answering answered old new (Ok verdict) = (verdict ≡ answered.verdict) × Takes answered.text old new
Answering answered old new (Err Cut) = CutsOff answered.text old new
Answering answered old new (Err (Unanswered fault)) = (status_of fault ≡ 6) × (new ≡ old)

-- so of these bytes
abbrev pub Upgrades : RequestView → Network → List ℕ → SinkView → SinkView → Result CommandVerdict Stop → Type 0
Upgrades asked P bytes old new ended =
    Answering (upgrade_answer asked P bytes (refutation_fault asked P bytes)) old new ended
