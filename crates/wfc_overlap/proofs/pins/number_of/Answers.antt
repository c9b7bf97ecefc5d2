use Rattle.std.proofs.Common.{[], map, sym, ◌∙◌, arith}
use Rattle.std.specs.Str.{bytes_eq}
use Rattle.std.proofs.lemmas.List.{length-map}
use Rattle.std.proofs.lemmas.List.Quantifiers.{position-Some}
use Rattle.wfc_lists.proofs.Positions.{position-map}
use Rattle.wfc_overlap.proofs.pins.number_of.Goals as goal

pub returns-in_err-at : goal.returns-in_err-at
returns-in_err-at c = rw c.from_residual.ensures
    record { value = c.in_err-at.ensures.first ∙ sym (position-map (λ text. bytes_eq text c.args.word.now) (λ text. text.items) c.args.texts.now) }

pub overflow_cast-result : goal.overflow_cast-result
overflow_cast-result c =
    let found = position-map (λ text. bytes_eq text c.args.word.now) (λ text. text.items) c.args.texts.now ∙ sym c.in_ok-at.ensures.first in
    let at = position-Some (λ text. bytes_eq text c.args.word.now) (map (λ text. text.items) c.args.texts.now) c.in_ok-at.at [] found in
    let long = length-map c.args.texts.now (λ text. text.items) in
    omega (arith, at.0, long, c.requires.few)

pub returns : goal.returns
returns c = record { value = c.in_ok-at.ensures.first ∙ sym (position-map (λ text. bytes_eq text c.args.word.now) (λ text. text.items) c.args.texts.now) }
