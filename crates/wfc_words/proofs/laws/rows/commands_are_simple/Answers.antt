use Rattle.wfc_words.proofs.MatchLemmas.{commands_are_free, commands_are_named}
use Rattle.wfc_words.proofs.laws.rows.commands_are_simple.Goals as goal

pub returns : goal.returns
returns c = record { simple = commands_are_free; named = commands_are_named }
