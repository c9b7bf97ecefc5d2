use Rattle.wfc_symmetry.proofs.ClassLemmas.{acted_behind, variant_by_action_below}
use Rattle.wfc_symmetry.proofs.laws.the_group_acts_on_classes.Goals as goal

pub returns-clause-variants : goal.returns-clause-variants
returns-clause-variants c class i a variant in_a = variant_by_action_below class i a variant in_a

pub returns-clause-behind : goal.returns-clause-behind
returns-clause-behind c class i a b variant in_a in_b = acted_behind class i a b variant in_a in_b
