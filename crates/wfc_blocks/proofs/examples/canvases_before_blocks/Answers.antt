use Rattle.std.proofs.Common.{None, Option, Some, ap, refl, sym, ℕ}
use Rattle.std.proofs.lemmas.Option.{none-some}
use Rattle.rand_core.specs.Stream.{next_u64}
use Rattle.wfc_choose.specs.Draw.{drawn_value}
use Rattle.wfc_choose.specs.Pick.{picked_cell}
use Rattle.wfc_problem.specs.Rounds.{greatest}
use Rattle.wfc_search.specs.Run.{turn_of, end_within, end_from}
use Rattle.wfc_blocks.specs.Growth.{Growth, full, spent, stopped}
use Rattle.wfc_blocks.proofs.examples.canvases_before_blocks.Goals as goal

-- what is set in the first pixel
abbrev first_pixel : Growth → Option ℕ
first_pixel (full canvas) = canvas 0 0
first_pixel (stopped block canvas) = None
first_pixel spent = None

pub returns-clause-second : goal.returns-clause-second
unfolding greatest picked_cell drawn_value next_u64 turn_of end_within end_from
returns-clause-second c = refl

pub returns-clause-not_yet : goal.returns-clause-not_yet
returns-clause-not_yet c is = absurd (none-some 0 (ap first_pixel is))

pub returns-clause-no_longer : goal.returns-clause-no_longer
unfolding greatest picked_cell drawn_value next_u64 turn_of end_within end_from
returns-clause-no_longer c is = absurd (none-some 0 (sym (ap first_pixel is)))
