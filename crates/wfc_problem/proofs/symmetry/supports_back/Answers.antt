-- The value is in the list exactly where it stands at the place that was found.
use Rattle.wfc_problem.proofs.Cursors.{ok_at}
use Rattle.wfc_problem.proofs.Supports.{supports_few}
use Rattle.wfc_problem.proofs.symmetry.supports_back.Goals as goal

pub first_from-at-requires : goal.first_from-at-requires
first_from-at-requires c = record { few = rw c.supports-list.ensures.value (supports_few c.args.parts.now c.requires.sized c.requires.indexed c.args.other c.args.dir) }

pub returns-clause-value : goal.returns-clause-value
returns-clause-value c =
    ok_at c.args.parts.now c.requires.indexed c.args.dir c.args.value c.args.other c.first_from-at.result c.args.places.now c.supports-list.result.now
    c.supports-list.ensures.value c.requires.before c.first_from-at.ensures.below c.first_from-at.ensures.least c.is_at.result c.is_at.ensures.value
