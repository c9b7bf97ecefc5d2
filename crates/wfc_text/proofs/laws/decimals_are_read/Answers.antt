use Rattle.wfc_text.proofs.NumberLemmas.{number_of-decimal}
use Rattle.wfc_text.proofs.laws.decimals_are_read.Goals as goal

pub returns : goal.returns
returns c = record { read = number_of-decimal }
