-- The answer of `check` to its task.
use Rattle.std.specs.Prelude.{List, None, Option, Some, codes, true, ℕ}
use Rattle.wfc_check.specs.declared.fault.CheckFault.{CheckFault}
use Rattle.wfc_reply.specs.Reply.{Answered, done_with}
use Rattle.wfc_reply.specs.declared.reply.CommandVerdict.TheVariants.{Unaccepted}

-- what `check` writes of a refutation
abbrev pub accepted_text : List ℕ
accepted_text = codes "accepted\n"

-- the answer of `check`, where this is the first fault of the text, or there is none
abbrev pub check_answer : Option CheckFault → Answered
check_answer None = done_with accepted_text
check_answer (Some fault) = record { verdict = Unaccepted fault; text = None; whole = true }
