use Rattle.wfc_blocks.proofs.PromiseLemmas.{grown_split}
use Rattle.wfc_blocks.proofs.laws.growth_goes_by_its_refusals.Goals as goal

pub returns : goal.returns
returns c = record { split = grown_split }
