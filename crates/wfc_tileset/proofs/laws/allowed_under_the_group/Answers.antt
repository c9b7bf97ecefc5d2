use Rattle.wfc_tileset.proofs.AllowedLemmas.{allowed_up, allowed_left, allowed_over, allowed_over_below}
use Rattle.wfc_tileset.proofs.laws.allowed_under_the_group.Goals as goal

pub returns : goal.returns
returns c = record { turned_up = allowed_up; turned_left = allowed_left; reflected = allowed_over; reflected_below = allowed_over_below }
