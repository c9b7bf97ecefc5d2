use Rattle.std.proofs.Common.{◌≡◌, true, subst}
use Rattle.wfc_picture.specs.Symbol.{same_symbol}
use Rattle.wfc_picture.proofs.SymbolLemmas.{same_symbol-sound, same_symbol-whole}
use Rattle.wfc_picture.proofs.laws.symbols_are_told_apart.Goals as goal

pub returns : goal.returns
returns c = record { same = λ a b. (same_symbol-sound a b, λ is. subst (λ s. same_symbol a s ≡ true) is (same_symbol-whole a)) }
