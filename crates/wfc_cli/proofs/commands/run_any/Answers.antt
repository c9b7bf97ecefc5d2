use Rattle.std.proofs.Common.{ap, refl, sym, ◌∙◌}
use Rattle.wfc_box_commands.proofs.CallerLemmas.{command_frame}
use Rattle.wfc_cli.proofs.DeliveryLemmas.{ends_of}
use Rattle.wfc_cli.proofs.commands.run_any.Goals as goal
use Rattle.wfc_grow_command.proofs.CallerLemmas.{grow_asked}
use Rattle.wfc_reply.proofs.CallerLemmas.{put_reply}
use Rattle.wfc_run_commands.proofs.CallerLemmas.{explain_asked, runners_asked}
use Rattle.wfc_task.proofs.CallerLemmas.{command_output, command_source}
use Rattle.wfc_words.specs.RequestView.{RequestView}
use Rattle.wfc_words.specs.declared.kinds.CommandKind.TheVariants.{BoxCheck, BoxFill, BoxRefute, Check, Demo, Domains, Explain, Fill, Grow, Learn, Race, Refute, Upgrade}

pub learn-requires : goal.learn-requires
learn-requires g c = record { source = command_source c.args.request.now Learn c.requires.in_range (sym (ap (λ (r : RequestView). r.command) c.request.view_is) ∙ c.in-Learn.is) refl }

pub returns-in-Learn : goal.returns-in-Learn
returns-in-Learn g c = record { ends = ends_of _ c.args.request.now Learn _ _ _ _ _ (sym (ap (λ (r : RequestView). r.command) c.request.view_is) ∙ c.in-Learn.is) (put_reply _ _ _ _ _ _ _ _ c.learn.ensures.ends c.put_answer.ensures.leaves) }

pub fill-requires-clause-source : goal.fill-requires-clause-source
fill-requires-clause-source g c = command_source c.args.request.now Fill c.requires.in_range (sym (ap (λ (r : RequestView). r.command) c.request.view_is) ∙ c.in-Fill.is) refl

pub fill-requires-clause-output : goal.fill-requires-clause-output
fill-requires-clause-output g c = command_output c.args.request.now Fill c.requires.in_range (sym (ap (λ (r : RequestView). r.command) c.request.view_is) ∙ c.in-Fill.is) refl refl

pub returns-in-Fill : goal.returns-in-Fill
returns-in-Fill g c = record { ends = ends_of _ c.args.request.now Fill _ _ _ _ _ (sym (ap (λ (r : RequestView). r.command) c.request.view_is) ∙ c.in-Fill.is) (put_reply _ _ _ _ _ _ _ _ c.fill.ensures.ends c.put_answer-in-Fill.ensures.leaves) }

pub domains-requires-clause-source : goal.domains-requires-clause-source
domains-requires-clause-source g c = command_source c.args.request.now Domains c.requires.in_range (sym (ap (λ (r : RequestView). r.command) c.request.view_is) ∙ c.in-Domains.is) refl

pub domains-requires-clause-output : goal.domains-requires-clause-output
domains-requires-clause-output g c = command_output c.args.request.now Domains c.requires.in_range (sym (ap (λ (r : RequestView). r.command) c.request.view_is) ∙ c.in-Domains.is) refl refl

pub returns-in-Domains : goal.returns-in-Domains
returns-in-Domains g c = record { ends = ends_of _ c.args.request.now Domains _ _ _ _ _ (sym (ap (λ (r : RequestView). r.command) c.request.view_is) ∙ c.in-Domains.is) c.domains.ensures.ends }

pub returns-in-Demo : goal.returns-in-Demo
returns-in-Demo g c = record { ends = ends_of _ c.args.request.now Demo _ _ _ _ _ (sym (ap (λ (r : RequestView). r.command) c.request.view_is) ∙ c.in-Demo.is) (put_reply _ _ _ _ _ _ _ _ c.demo.ensures.ends c.put_answer-in-Demo.ensures.leaves) }

pub refute-requires-clause-source : goal.refute-requires-clause-source
refute-requires-clause-source g c = command_source c.args.request.now Refute c.requires.in_range (sym (ap (λ (r : RequestView). r.command) c.request.view_is) ∙ c.in-Refute.is) refl

pub refute-requires-clause-output : goal.refute-requires-clause-output
refute-requires-clause-output g c = command_output c.args.request.now Refute c.requires.in_range (sym (ap (λ (r : RequestView). r.command) c.request.view_is) ∙ c.in-Refute.is) refl refl

pub returns-in-Refute : goal.returns-in-Refute
returns-in-Refute g c = record { ends = ends_of _ c.args.request.now Refute _ _ _ _ _ (sym (ap (λ (r : RequestView). r.command) c.request.view_is) ∙ c.in-Refute.is) c.refute.ensures.ends }

pub check-requires-clause-source : goal.check-requires-clause-source
check-requires-clause-source g c = command_source c.args.request.now Check c.requires.in_range (sym (ap (λ (r : RequestView). r.command) c.request.view_is) ∙ c.in-Check.is) refl

pub check-requires-clause-output : goal.check-requires-clause-output
check-requires-clause-output g c = command_output c.args.request.now Check c.requires.in_range (sym (ap (λ (r : RequestView). r.command) c.request.view_is) ∙ c.in-Check.is) refl refl

pub returns-in-Check : goal.returns-in-Check
returns-in-Check g c = record { ends = ends_of _ c.args.request.now Check _ _ _ _ _ (sym (ap (λ (r : RequestView). r.command) c.request.view_is) ∙ c.in-Check.is) (put_reply _ _ _ _ _ _ _ _ c.check.ensures.ends c.put_answer-in-Check.ensures.leaves) }

pub upgrade-requires-clause-source : goal.upgrade-requires-clause-source
upgrade-requires-clause-source g c = command_source c.args.request.now Upgrade c.requires.in_range (sym (ap (λ (r : RequestView). r.command) c.request.view_is) ∙ c.in-Upgrade.is) refl

pub upgrade-requires-clause-output : goal.upgrade-requires-clause-output
upgrade-requires-clause-output g c = command_output c.args.request.now Upgrade c.requires.in_range (sym (ap (λ (r : RequestView). r.command) c.request.view_is) ∙ c.in-Upgrade.is) refl refl

pub returns-in-Upgrade : goal.returns-in-Upgrade
returns-in-Upgrade g c = record { ends = ends_of _ c.args.request.now Upgrade _ _ _ _ _ (sym (ap (λ (r : RequestView). r.command) c.request.view_is) ∙ c.in-Upgrade.is) c.upgrade.ensures.ends }

pub race-requires-clause-source : goal.race-requires-clause-source
race-requires-clause-source g c = command_source c.args.request.now Race c.requires.in_range (sym (ap (λ (r : RequestView). r.command) c.request.view_is) ∙ c.in-Race.is) refl

pub race-requires-clause-output : goal.race-requires-clause-output
race-requires-clause-output g c = command_output c.args.request.now Race c.requires.in_range (sym (ap (λ (r : RequestView). r.command) c.request.view_is) ∙ c.in-Race.is) refl refl

pub race-requires-clause-runners : goal.race-requires-clause-runners
race-requires-clause-runners g c = runners_asked c.args.request.now c.requires.in_range (sym (ap (λ (r : RequestView). r.command) c.request.view_is) ∙ c.in-Race.is)

pub returns-in-Race : goal.returns-in-Race
returns-in-Race g c = record { ends = ends_of _ c.args.request.now Race _ _ _ _ _ (sym (ap (λ (r : RequestView). r.command) c.request.view_is) ∙ c.in-Race.is) (put_reply _ _ _ _ _ _ _ _ c.race.ensures.ends c.put_answer-in-Race.ensures.leaves) }

pub explain-requires-clause-source : goal.explain-requires-clause-source
explain-requires-clause-source g c = command_source c.args.request.now Explain c.requires.in_range (sym (ap (λ (r : RequestView). r.command) c.request.view_is) ∙ c.in-Explain.is) refl

pub explain-requires-clause-output : goal.explain-requires-clause-output
explain-requires-clause-output g c = command_output c.args.request.now Explain c.requires.in_range (sym (ap (λ (r : RequestView). r.command) c.request.view_is) ∙ c.in-Explain.is) refl refl

pub explain-requires-clause-asked : goal.explain-requires-clause-asked
explain-requires-clause-asked g c = explain_asked c.args.request.now c.requires.in_range (sym (ap (λ (r : RequestView). r.command) c.request.view_is) ∙ c.in-Explain.is)

pub returns-in-Explain : goal.returns-in-Explain
returns-in-Explain g c = record { ends = ends_of _ c.args.request.now Explain _ _ _ _ _ (sym (ap (λ (r : RequestView). r.command) c.request.view_is) ∙ c.in-Explain.is) (put_reply _ _ _ _ _ _ _ _ c.explain.ensures.ends c.put_answer-in-Explain.ensures.leaves) }

pub grow-requires-clause-output : goal.grow-requires-clause-output
grow-requires-clause-output g c = command_output c.args.request.now Grow c.requires.in_range (sym (ap (λ (r : RequestView). r.command) c.request.view_is) ∙ c.in-Grow.is) refl refl

pub grow-requires-clause-asked : goal.grow-requires-clause-asked
grow-requires-clause-asked g c = grow_asked c.args.request.now c.requires.in_range (sym (ap (λ (r : RequestView). r.command) c.request.view_is) ∙ c.in-Grow.is)

pub returns-in-Grow : goal.returns-in-Grow
returns-in-Grow g c = record { ends = ends_of _ c.args.request.now Grow _ _ _ _ _ (sym (ap (λ (r : RequestView). r.command) c.request.view_is) ∙ c.in-Grow.is) c.grow.ensures.ends }

pub box_fill-requires : goal.box_fill-requires
box_fill-requires g c = record {
  frame = command_frame BoxFill c.args.request.now (record { width = refl; height = refl; depth = refl }) c.requires.in_range (sym (ap (λ (r : RequestView). r.command) c.request.view_is) ∙ c.in-BoxFill.is);
}

pub returns-in-BoxFill : goal.returns-in-BoxFill
returns-in-BoxFill g c = record { ends = ends_of _ c.args.request.now BoxFill _ _ _ _ _ (sym (ap (λ (r : RequestView). r.command) c.request.view_is) ∙ c.in-BoxFill.is) (put_reply _ _ _ _ _ _ _ _ c.box_fill.ensures.ends c.put_answer-in-BoxFill.ensures.leaves) }

pub box_refute-requires : goal.box_refute-requires
box_refute-requires g c = record {
  frame = command_frame BoxRefute c.args.request.now (record { width = refl; height = refl; depth = refl }) c.requires.in_range (sym (ap (λ (r : RequestView). r.command) c.request.view_is) ∙ c.in-BoxRefute.is);
}

pub returns-in-BoxRefute : goal.returns-in-BoxRefute
returns-in-BoxRefute g c = record { ends = ends_of _ c.args.request.now BoxRefute _ _ _ _ _ (sym (ap (λ (r : RequestView). r.command) c.request.view_is) ∙ c.in-BoxRefute.is) c.box_refute.ensures.ends }

pub box_check-requires : goal.box_check-requires
box_check-requires g c = record {
  frame = command_frame BoxCheck c.args.request.now (record { width = refl; height = refl; depth = refl }) c.requires.in_range (sym (ap (λ (r : RequestView). r.command) c.request.view_is) ∙ c.in-BoxCheck.is);
}

pub returns-in-BoxCheck : goal.returns-in-BoxCheck
returns-in-BoxCheck g c = record { ends = ends_of _ c.args.request.now BoxCheck _ _ _ _ _ (sym (ap (λ (r : RequestView). r.command) c.request.view_is) ∙ c.in-BoxCheck.is) (put_reply _ _ _ _ _ _ _ _ c.box_check.ensures.ends c.put_answer-in-BoxCheck.ensures.leaves) }
