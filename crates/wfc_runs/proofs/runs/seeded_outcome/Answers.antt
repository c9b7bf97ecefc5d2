use Rattle.wfc_runs.proofs.RunLemmas.{seeded_end}
use Rattle.wfc_runs.proofs.runs.seeded_outcome.Goals as goal

pub returns-clause-end : goal.returns-clause-end
returns-clause-end g c = seeded_end _ _ _ _ _ _ _ _ _ _ c.args.seed c.words_of_seed-words.ensures.value c.in-Ok.ensures.end
