use Rattle.wfc_runs.proofs.RunLemmas.{seeded_words}
use Rattle.wfc_runs.proofs.runs.words_of_seed.Goals as goal

pub returns : goal.returns
returns c = record { value = seeded_words _ c.args.seed c.seed_from_u64.ensures }
