use Rattle.std.proofs.Common.{ap, refl, subst, sym, ◌∙◌}
use Rattle.wfc_cli.proofs.DeliveryLemmas.{ends_of}
use Rattle.wfc_cli.proofs.commands.run.Goals as goal
use Rattle.wfc_reply.proofs.CallerLemmas.{put_reply}
use Rattle.wfc_task.specs.Asked.{AskedBy}
use Rattle.wfc_task.proofs.CallerLemmas.{command_output, command_source}
use Rattle.wfc_words.specs.RequestView.{RequestView}
use Rattle.wfc_words.specs.declared.kinds.SourceModel.{SourceModel}
use Rattle.wfc_words.specs.declared.kinds.CommandKind.TheVariants.{Fill}

pub fill_sample-requires-clause-sample : goal.fill_sample-requires-clause-sample
fill_sample-requires-clause-sample g c =
    let source = command_source c.args.request.now Fill c.requires.in_range (sym (ap (λ (r : RequestView). r.command) c.request.view_is) ∙ c.in-Fill.is) refl in
    subst (λ (s : SourceModel). AskedBy s c.args.request.now) (sym (ap (λ (r : RequestView). r.source) c.request.view_is) ∙ c.in-Overlap.is) source

pub fill_sample-requires-clause-output : goal.fill_sample-requires-clause-output
fill_sample-requires-clause-output g c = command_output c.args.request.now Fill c.requires.in_range (sym (ap (λ (r : RequestView). r.command) c.request.view_is) ∙ c.in-Fill.is) refl refl

pub returns-in-Overlap : goal.returns-in-Overlap
returns-in-Overlap g c = record { ends = ends_of _ c.args.request.now Fill _ _ _ _ _ (sym (ap (λ (r : RequestView). r.command) c.request.view_is) ∙ c.in-Fill.is) (put_reply _ _ _ _ _ _ _ _ c.fill_sample.ensures.ends c.put_answer.ensures.leaves) }
