use Rattle.wfc_symmetry.proofs.GroupLemmas.{image-behind}
use Rattle.wfc_symmetry.proofs.laws.images_compose_as_actions.Goals as goal

pub returns-clause-behind : goal.returns-clause-behind
returns-clause-behind c n a b w long in_a in_b = image-behind n a b w long in_a in_b
