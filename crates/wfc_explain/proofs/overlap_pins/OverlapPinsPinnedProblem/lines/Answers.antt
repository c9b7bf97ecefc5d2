use Rattle.std.proofs.Common.{subst}
use Rattle.wfc_overlap.specs.Sample.{output_with}
use Rattle.wfc_explain.specs.Pinned.{IsPinned}
use Rattle.wfc_explain.specs.Problems.{SamplePins, pinned_sample}
use Rattle.wfc_explain.proofs.ProblemLemmas.{sample_is_pinned}
use Rattle.wfc_explain.proofs.overlap_pins.OverlapPinsPinnedProblem.lines.Goals as goal

pub returns-clause-pinned : goal.returns-clause-pinned
returns-clause-pinned c =
    let i = c.self.inside in
    let s : SamplePins = record { patterns = i.patterns.now; output = output_with i.width i.height i.wrap; pins = i.marks.items } in
    subst (λ (t : SamplePins). IsPinned (pinned_sample t)) c.self.view_is (sample_is_pinned s c.self.invariant.0)
