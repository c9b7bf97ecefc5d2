use Rattle.wfc_words.proofs.RangeLemmas.{given-in_range}
use Rattle.wfc_words.proofs.reading.request.Goals as goal

pub returns-in-Some-clause-in_range : goal.returns-in-Some-clause-in_range
returns-in-Some-clause-in_range c = given-in_range c.in-Some.kind _ c.asked_by.result c.asked_by.ensures.exact
