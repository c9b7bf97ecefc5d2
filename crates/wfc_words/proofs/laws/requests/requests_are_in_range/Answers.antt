use Rattle.wfc_words.proofs.RangeLemmas.{asked-in_range}
use Rattle.wfc_words.proofs.laws.requests.requests_are_in_range.Goals as goal

pub returns : goal.returns
returns c = record { in_range = asked-in_range }
