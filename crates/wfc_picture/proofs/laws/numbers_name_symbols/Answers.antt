use Rattle.wfc_picture.proofs.NumberedLemmas.{named_back, numbered_below}
use Rattle.wfc_picture.proofs.laws.numbers_name_symbols.Goals as goal

pub returns-clause-named : goal.returns-clause-named
returns-clause-named c symbols = named_back symbols

pub returns-clause-below : goal.returns-clause-below
returns-clause-below c symbols = numbered_below symbols
