use Rattle.wfc_explain.proofs.ProblemLemmas.{sample_as_many}
use Rattle.wfc_overlap.specs.Sample.{output_with}
use Rattle.wfc_run_commands.proofs.ExplainGivenLemmas.{given_pins}
use Rattle.wfc_run_commands.proofs.explaining.sample_pins.Goals as goal

pub returns-clause-each_line : goal.returns-clause-each_line
returns-clause-each_line c =
    let output = output_with c.request.inside.width c.request.inside.height c.request.inside.wrap_out in
    sample_as_many c.args.taught.now.patterns c.args.taught.now.palette output c.args.lines.now c.in_ok-new.field-0 (given_pins _ c.in_ok-new.field-0 c.in_ok-new.ensures.exact)
