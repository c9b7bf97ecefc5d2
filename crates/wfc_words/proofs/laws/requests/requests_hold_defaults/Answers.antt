use Rattle.wfc_words.proofs.DefaultLemmas.{asked_defaults}
use Rattle.wfc_words.proofs.laws.requests.requests_hold_defaults.Goals as goal

pub returns : goal.returns
returns c = record { defaults = asked_defaults }
