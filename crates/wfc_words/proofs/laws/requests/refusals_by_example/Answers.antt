use Rattle.std.proofs.Common.{refl}
use Rattle.clap.proofs.OnLiterals.{clap_on_literals}
use Rattle.wfc_words.proofs.laws.requests.refusals_by_example.Goals as goal

pub returns : goal.returns
unfolding clap_on_literals
returns c = record { nothing = refl; unknown = refl; few = refl; many = refl; other = refl; flag_twice = refl; option_twice = refl; option_missing = refl; pins_missing = refl; required_twice = refl; help = refl; grown_edges = refl; grown_mask = refl; box_model = refl; box_form = refl; box_refutation = refl }
