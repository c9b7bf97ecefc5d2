use Rattle.wfc_overlap.proofs.WordLemmas.{spelled-pin, unspelled-pin}
use Rattle.wfc_overlap.proofs.laws.pins_name_symbols.Goals as goal

pub returns-clause-spelled : goal.returns-clause-spelled
returns-clause-spelled c palette width height line symbol spells column row shown =
    spelled-pin palette width height line column row shown symbol spells

pub returns-clause-unknown : goal.returns-clause-unknown
returns-clause-unknown c palette width height line none column row shown =
    unspelled-pin palette width height line column row shown none
