use Rattle.std.proofs.Common.{refl}
use Rattle.wfc_choose.specs.Draw.{drawn_value}
use Rattle.wfc_choose.proofs.laws.small_draws.Goals as goal

pub returns : goal.returns
unfolding drawn_value
returns c = record { drawn = refl }
