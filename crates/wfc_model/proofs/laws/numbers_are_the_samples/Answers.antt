use Rattle.wfc_model.proofs.RenumberedLemmas.{learned_known, legal_known}
use Rattle.wfc_model.proofs.laws.numbers_are_the_samples.Goals as goal

pub returns-clause-learned : goal.returns-clause-learned
returns-clause-learned c sample n s wrap raster = learned_known sample raster n s wrap

pub returns-clause-legal : goal.returns-clause-legal
returns-clause-legal c sample m rules pins w h raster some legal = legal_known sample rules pins w h m raster some legal
