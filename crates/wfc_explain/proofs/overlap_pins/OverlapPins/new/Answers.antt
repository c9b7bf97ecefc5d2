use Rattle.std.proofs.Common.{[], ap, ◌∙◌, arith}
use Rattle.wfc_outside.proofs.CallerLemmas.{gives_value}
use Rattle.wfc_overlap.specs.Sample.{output_with}
use Rattle.wfc_pins.specs.declared.fault.BuildFault.TheVariants.{NoMemory}
use Rattle.wfc_problem.specs.Network.{Network}
use Rattle.wfc_explain.proofs.ProblemLemmas.{sample_found}
use Rattle.wfc_explain.proofs.overlap_pins.OverlapPins.new.Goals as goal

pub invariant_of-result : goal.invariant_of-result
invariant_of-result c =
    let marks = c.in_ok-marks.ensures in
    let found = gives_value NoMemory (λ marks. marks.items) c.in_ok-marks.marks _ marks.exact in
    let many = sample_found c.args.patterns.now c.args.palette.now (output_with c.args.width c.args.height c.args.wrap) c.args.pins.now c.in_ok-marks.marks.items found in (
      record {
        patterns_are = c.in_ok-plain.ensures.patterns;
        room = marks.room;
        width_limit = c.requires.width_limit;
        height_limit = c.requires.height_limit;
        inside = marks.inside;
        few_lines = omega (arith, many, c.requires.few_lines);
      },
      c.without_base.ensures.value ∙ ap (λ (N : Network). record N { base = [] }) c.in_ok-plain.ensures.value,
    )
