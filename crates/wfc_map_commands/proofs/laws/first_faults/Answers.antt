use Rattle.std.proofs.Common.{Err, [], refl, ◌≡◌}
use Rattle.wfc_map_commands.proofs.DomainsGivenLemmas.{behind_problem}
use Rattle.wfc_map_commands.specs.LearnTask.{learn_plan_by}
use Rattle.wfc_outside.specs.declared.whole.ReadFault.TheVariants.{Missing}
use Rattle.wfc_plan.specs.Plan.{and_then, outcome}
use Rattle.wfc_plan.specs.declared.fault.Fault.TheVariants.{Unread}
use Rattle.wfc_plan.specs.declared.fault.Source.TheVariants.{Sample}
use Rattle.wfc_map_commands.proofs.laws.first_faults.Goals as goal
use Rattle.wfc_task.specs.Posed.{posed_plan_by}
use Rattle.wfc_words.specs.RequestView.{RequestView}
use Rattle.wfc_words.specs.declared.kinds.SourceModel.{SourceModel}
use Rattle.wfc_words.specs.declared.kinds.SourceModel.TheVariants.{Overlap, Tiles}

nothing_learned : (source : SourceModel) (asked : RequestView) → outcome (learn_plan_by source asked) [] ≡ Err (Unread Sample Missing)
nothing_learned (Overlap n) asked = refl
nothing_learned Tiles asked = refl

nothing_posed : (source : SourceModel) (asked : RequestView) → outcome (and_then (posed_plan_by source asked) (behind_problem asked)) [] ≡ Err (Unread Sample Missing)
nothing_posed (Overlap n) asked = refl
nothing_posed Tiles asked = refl

pub returns-clause-sample : goal.returns-clause-sample
returns-clause-sample c = λ asked. nothing_learned asked.source asked

pub returns-clause-steps : goal.returns-clause-steps
returns-clause-steps c = λ asked. nothing_posed asked.source asked
