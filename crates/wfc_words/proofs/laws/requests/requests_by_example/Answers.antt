use Rattle.std.proofs.Common.{refl}
use Rattle.clap.proofs.OnLiterals.{clap_on_literals}
use Rattle.wfc_words.proofs.laws.requests.requests_by_example.Goals as goal

pub returns : goal.returns
unfolding clap_on_literals
returns c = record { learn = refl; fill = refl; domains = refl; refute = refl; check = refl; upgrade = refl; demo = refl; race = refl; explain = refl; grow = refl; box_fill = refl; box_refute = refl; box_check = refl }
