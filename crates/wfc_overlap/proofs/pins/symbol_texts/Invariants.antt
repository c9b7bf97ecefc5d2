use Rattle.std.proofs.Common.{◌≡◌, map, take, vec_len}
use Rattle.wfc_picture.specs.Symbol.{symbol_text}
use Rattle.wfc_overlap.proofs.pins.symbol_texts.Given as goal

abbrev pub invariant-loop-number : goal.invariant-loop-number
invariant-loop-number l = record {
  texts_are : map (λ text. text.items) l.texts.items ≡ map symbol_text (take l.number l.palette);
  as_many : vec_len l.texts ≡ l.number;
}
