-- What is written of an answer where the sink of the answer fails.
use Rattle.std.proofs.Common.{List, None, Option, Some, ap, arith, inl, inr, refl, sym, ℕ, ◌∙◌, ◌≡◌, ◌⊎◌}
use Rattle.wfc_outside.specs.Folder.{File}
use Rattle.wfc_outside.specs.Sink.{IsFaultAfterFront}
use Rattle.wfc_reply.proofs.CameLemmas.{CameTo, HasAnswered, cut, none, whole}
use Rattle.wfc_reply.proofs.VerdictLemmas.{verdict_apart}
use Rattle.wfc_reply.specs.Asking.{IsCommand}
use Rattle.wfc_reply.specs.Call.{Call}
use Rattle.wfc_reply.specs.Command.{Command}
use Rattle.wfc_reply.specs.CutClaims.{CutsText}
use Rattle.wfc_reply.specs.Reply.{Answered, CutsOff}
use Rattle.wfc_words.specs.RequestView.{RequestView}
use Rattle.wfc_words.specs.declared.kinds.CommandKind.{CommandKind}

-- every text that a command answers is one of these
abbrev pub AnswersOnly : CommandKind → Command → (RequestView → List File → List ℕ → Type 0) → Call → Type 0
AnswersOnly kind command IsText call =
    (asked : RequestView) (files : List File) → IsCommand kind call asked files
    → (answered : Answered) → HasAnswered command call.rules asked files answered → (text : List ℕ) → answered.text ≡ Some text → IsText asked files text

-- then what is cut off is a front of one
pub cuts_text : (kind : CommandKind) (command : Command) (IsText : RequestView → List File → List ℕ → Type 0) (call : Call)
    → AnswersOnly kind command IsText call → (asked : RequestView) (files : List File) → IsCommand kind call asked files → CameTo command call asked files → CutsText IsText call asked files
cuts_text kind command IsText call only asked files is came five = by_end came
  where
    by_text : (answered : Answered) → HasAnswered command call.rules asked files answered → (text : Option (List ℕ)) → answered.text ≡ text → CutsOff text call.before.out call.after.out
        → (text : List ℕ) × IsText asked files text × IsFaultAfterFront call.before.out call.after.out text
    by_text answered has None same front = absurd front
    by_text answered has (Some text) same front = (text, only asked files is answered has text same, front)

    by_end : CameTo command call asked files → (call.after.out ≡ call.before.out) ⊎ ((text : List ℕ) × IsText asked files text × IsFaultAfterFront call.before.out call.after.out text)
    by_end (whole answered has same takes) = absurd (verdict_apart answered.verdict 5 (omega arith) (omega arith) (sym same ∙ five))
    by_end (cut answered has _ front) = inr (by_text answered has answered.text refl front)
    by_end (none high same) = inl same

-- the text of an answer that is this one
pub text_of : (answered made : Answered) (text own : List ℕ) → made ≡ answered → made.text ≡ Some own → answered.text ≡ Some text → text ≡ own
text_of answered made text own is has same =
    let both : Some text ≡ Some own = sym same ∙ sym (ap (λ (a : Answered). a.text) is) ∙ has in cc (both)
