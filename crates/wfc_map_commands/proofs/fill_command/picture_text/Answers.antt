use Rattle.std.proofs.Common.{ap, ◌∙◌}
use Rattle.wfc_map_commands.proofs.FillLemmas.{each_pattern, picture_written}
use Rattle.wfc_map_commands.proofs.fill_command.picture_text.Goals as goal
use Rattle.wfc_overlap.specs.Bridge.{picture_of}
use Rattle.wfc_task.specs.Maps.{asked_output}
use Rattle.wfc_words.specs.RequestView.{RequestView}

pub picture_of-requires-clause-values : goal.picture_of-requires-clause-values
picture_of-requires-clause-values c =
    each_pattern c.args.filling.now.patterns (asked_output c.args.request.now) c.requires.filling.problem.0 c.args.filling.now.problem c.args.assignment.now c.requires.filling.taught c.requires.filling.sound
    c.requires.filling.problem.1 c.requires.legal

pub picture_bytes-requires : goal.picture_bytes-requires
picture_bytes-requires c = record {
  written = picture_written c.args.request.now c.args.filling.now c.args.assignment.now c.in_ok-picture.picture c.requires.output c.requires.filling
      (c.in_ok-picture.ensures.exact ∙ ap (λ (r : RequestView). picture_of c.args.filling.now.patterns (asked_output r) c.args.assignment.now) c.request.view_is);
}
