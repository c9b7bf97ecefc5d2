use Rattle.wfc_symmetry.proofs.ClassLemmas.{variant_by_action_differ}
use Rattle.wfc_symmetry.proofs.laws.the_group_is_the_squares.Goals as goal

pub returns-clause-differ : goal.returns-clause-differ
returns-clause-differ c a b in_a in_b same = variant_by_action_differ a b in_a in_b same
