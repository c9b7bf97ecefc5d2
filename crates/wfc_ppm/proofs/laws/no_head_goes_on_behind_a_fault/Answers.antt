use Rattle.wfc_ppm.proofs.WholeHeadLemmas.{no_header_behind, no_picture_behind}
use Rattle.wfc_ppm.proofs.laws.no_head_goes_on_behind_a_fault.Goals as goal

pub returns-clause-heads : goal.returns-clause-heads
returns-clause-heads c form text at inside fault starts = no_header_behind form text at inside fault starts

pub returns-clause-pictures : goal.returns-clause-pictures
returns-clause-pictures c form text at formed inside fault rest ppm spells = no_picture_behind form text at rest ppm formed inside fault spells
