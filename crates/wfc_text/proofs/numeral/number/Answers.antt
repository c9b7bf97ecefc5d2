use Rattle.std.proofs.Common.{sym}
use Rattle.std.specs.Char.{is_ascii_digit}
use Rattle.wfc_text.proofs.PassLemmas.{all_pass}
use Rattle.wfc_text.proofs.numeral.number.Goals as goal

pub value-requires : goal.value-requires
value-requires c = record { digits = all_pass is_ascii_digit c.args.text.now (sym c.in_default.ensures.first) }
