use Rattle.std.proofs.Common.{◌≡◌, Bool, true, false, not, Option, None, Some, refl, ap, ◌∙◌, sym}
use Rattle.std.specs.Prelude.{is_some, is_none, ◌||◌}
use Rattle.wfc_pins.specs.Words.{is_empty, words_of}
use Rattle.wfc_pins.proofs.WordLemmas.{is_empty-words}
use Rattle.wfc_pins.proofs.words.is_skipped.Goals as goal

-- the test that there is none, by the test that there is one
is_none_by : {T : Type 0} (o : Option T) (b : Bool) → is_some o ≡ not b → b ≡ is_none o
is_none_by None true is = refl
is_none_by None false is = absurd (cc)
is_none_by (Some x) true is = absurd (cc)
is_none_by (Some x) false is = refl

pub returns-else-is_comment : goal.returns-else-is_comment
returns-else-is_comment c =
    let none = is_none_by c.first_other.result c.is_none.result c.is_none.ensures ∙ ap is_none c.first_other.ensures.first ∙ sym (is_empty-words c.args.line.now) in
    record { value = none ∙ ap (λ comment. comment || is_empty (words_of c.args.line.now)) c.if-is_comment.ensures.value }
