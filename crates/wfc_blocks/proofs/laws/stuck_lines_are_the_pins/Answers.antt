use Rattle.std.proofs.Common.{length}
use Rattle.wfc_overlap.specs.Built.{texts_of}
use Rattle.wfc_blocks.specs.Canvas.{lines_of_block, pins_of_block}
use Rattle.wfc_blocks.proofs.MeantLemmas.{lines_built, lines_meant}
use Rattle.wfc_blocks.proofs.SmallLemmas.{stopped_small}
use Rattle.wfc_blocks.proofs.WholeLemmas.{growth_stopped}
use Rattle.wfc_blocks.proofs.laws.stuck_lines_are_the_pins.Goals as goal

pub returns-clause-meant : goal.returns-clause-meant
returns-clause-meant c = λ palette lines area terms block canvas named meant is.
    lines_meant palette area.width area.height lines terms.pins canvas block named.shown named.apart (stopped_small (length palette) terms named.some_symbol named.below area block canvas is) meant

pub returns-clause-built : goal.returns-clause-built
returns-clause-built c = λ palette lines area terms block canvas named taught growable meant is.
    lines_built terms.patterns palette block (lines_of_block (texts_of palette) lines canvas block) (pins_of_block terms.pins canvas block) (growth_stopped area terms taught growable block canvas is).room
    (lines_meant palette area.width area.height lines terms.pins canvas block named.shown named.apart (stopped_small (length palette) terms named.some_symbol named.below area block canvas is) meant)
