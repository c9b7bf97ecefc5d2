use Rattle.std.proofs.Common.{refl}
use Rattle.clap.proofs.OnLiterals.{clap_on_literals}
use Rattle.wfc_words.proofs.laws.faults.ranges_by_example.Goals as goal

pub returns : goal.returns
unfolding clap_on_literals
returns c = record { model = refl; no_side = refl; width = refl; height = refl; symmetry = refl; seed = refl; budget = refl; rule = refl; explain_unranked = refl; unranked = refl; form = refl; number = refl; format = refl; mask = refl; seeds = refl; seeds_fit = refl; quantum = refl; untiled = refl; grow_unranked = refl; block = refl; block_limit = refl; depth = refl; no_depth = refl }
