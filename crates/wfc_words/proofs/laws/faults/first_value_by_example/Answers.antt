use Rattle.std.proofs.Common.{refl}
use Rattle.clap.proofs.OnLiterals.{clap_on_literals}
use Rattle.wfc_words.proofs.laws.faults.first_value_by_example.Goals as goal

pub returns : goal.returns
unfolding clap_on_literals
returns c = record { model_width = refl; width_height = refl; height_symmetry = refl; symmetry_seed = refl; seed_budget = refl; budget_rule = refl; rule_form = refl; form_mask = refl; format_mask = refl; mask_seeds = refl; seeds_quantum = refl; form_block = refl; height_depth = refl; format_depth = refl }
