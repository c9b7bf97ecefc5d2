use Rattle.std.proofs.Common.{◌≡◌, ◌<◌, ◌+◌, ◌++◌, [], ◌∷◌, length, map, take, sym, ap, ◌∙◌, arith}
use Rattle.std.proofs.lemmas.List.{map-append, take_more}
use Rattle.std.proofs.lemmas.Option.{get_or_from_slice_get}
use Rattle.wfc_picture.specs.Symbol.{symbol_text}
use Rattle.wfc_overlap.proofs.pins.symbol_texts.Goals as goal

pub loop-number-preserved : goal.loop-number-preserved
loop-number-preserved c =
    let k = c.loop-number.number in
    let palette = c.args.palette.now in
    let s = c.symbol.result in
    let inside : k < length palette = omega (arith, c.loop-number-test.true, c.len-number-end.ensures.value) in
    let taken : take (k + 1) palette ≡ take k palette ++ s ∷ [] = take_more palette k s inside ∙ ap (λ x. take k palette ++ x ∷ []) (get_or_from_slice_get palette k s s c.symbol.ensures.value) in
    record {
      texts_are =
          ap (map (λ text. text.items)) c.in_ok-push.ensures.items
          ∙ map-append (λ text. text.items) c.loop-number.texts.items (c.in_ok-text.field-0 ∷ [])
          ∙ ap (λ ts. ts ++ c.in_ok-text.field-0.items ∷ []) c.loop-number.invariant.texts_are
          ∙ ap (λ t. map symbol_text (take k palette) ++ t ∷ []) c.in_ok-text.ensures.value
          ∙ sym (ap (map symbol_text) taken ∙ map-append symbol_text (take k palette) (s ∷ []));
      as_many = omega (arith, c.in_ok-push.ensures.len, c.loop-number.invariant.as_many);
    }
