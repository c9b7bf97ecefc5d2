use Rattle.wfc_symmetry.proofs.GroupLemmas.{action_undone}
use Rattle.wfc_symmetry.proofs.laws.actions_are_a_group.Goals as goal

pub returns-clause-undone : goal.returns-clause-undone
returns-clause-undone c a in_a = action_undone a in_a
