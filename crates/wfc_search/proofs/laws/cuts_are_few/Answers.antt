use Rattle.wfc_search.proofs.Cuts.{grown_few}
use Rattle.wfc_search.proofs.laws.cuts_are_few.Goals as goal

pub returns : goal.returns
returns c = record { few = grown_few }
