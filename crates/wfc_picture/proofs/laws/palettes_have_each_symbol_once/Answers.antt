use Rattle.wfc_lists.proofs.WithoutRepeats.{IsDistinct-without_repeats, without_repeats-Contains}
use Rattle.wfc_picture.specs.Symbol.{same_symbol}
use Rattle.wfc_picture.proofs.NumberedLemmas.{palette_has}
use Rattle.wfc_picture.proofs.laws.palettes_have_each_symbol_once.Goals as goal

pub returns-clause-each : goal.returns-clause-each
returns-clause-each c symbols symbol = (without_repeats-Contains same_symbol symbols symbol, palette_has symbols symbol)

pub returns-clause-once : goal.returns-clause-once
returns-clause-once c symbols = IsDistinct-without_repeats same_symbol symbols
