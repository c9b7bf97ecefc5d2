use Rattle.std.proofs.Common.{refl, arith}
use Rattle.wfc_picture.specs.declared.symbol.Symbol.TheVariants.{Char}
use Rattle.wfc_grow_command.proofs.WrittenPinLemmas.{pins_back}
use Rattle.wfc_grow_command.proofs.laws.written_pins_are_read_back.Goals as goal

pub returns-clause-read : goal.returns-clause-read
returns-clause-read c = λ lines written. pins_back 1 lines written

pub returns-clause-last : goal.returns-clause-last
returns-clause-last c = record { x_in = omega arith; y_in = omega arith; symbol = (Char 0x20, record { shown = refl; text = refl }) }
