-- What a reply in the code is seen as.
use Rattle.std.specs.Prelude.{Err, List, None, Ok, Option, Result, Some, true, ℕ, ◌≡◌}
use Rattle.std.specs.declared.alloc.Global.{Global}
use Rattle.std.specs.declared.vec.Vec.{Vec}
use Rattle.wfc_plan.specs.declared.fault.Fault.{Fault}
use Rattle.wfc_reply.specs.Reply.{Answered, Reply}
use Rattle.wfc_reply.specs.declared.reply.Answer.{Answer}

-- the bytes of a text
abbrev pub text_view : Option (Vec ℕ Global) → Option (List ℕ)
text_view None = None
text_view (Some text) = Some text.items

-- an answer without where its text lies
abbrev pub answer_view : Answer → Answered
answer_view answer = record { verdict = answer.verdict; text = text_view answer.text; whole = true }

-- this is what is answered
abbrev pub IsAnsweredAs : Option Answered → Answer → Type 0
IsAnsweredAs answered answer = answered ≡ Some (answer_view answer)

-- the reply that a result of the code stands for: its answer, or its fault
abbrev pub reply_view : Result Answer Fault → Reply
reply_view (Ok answer) = Ok (answer_view answer)
reply_view (Err fault) = Err fault
