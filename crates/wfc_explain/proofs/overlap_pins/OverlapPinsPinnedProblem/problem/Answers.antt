use Rattle.std.proofs.Common.{◌≡◌, ◌<◌, sym, subst, ap, ◌∙◌}
use Rattle.wfc_model.specs.Legal.{Pin}
use Rattle.wfc_overlap.specs.Bridge.{AreInside}
use Rattle.wfc_overlap.specs.Sample.{Output, window_base_table, output_with}
use Rattle.wfc_overlap.proofs.CallerLemmas.{sample_problem}
use Rattle.wfc_problem.specs.Network.{IsProblem}
use Rattle.wfc_explain.specs.KeptLines.{kept_of}
use Rattle.wfc_explain.proofs.KeptLemmas.{All-kept}
use Rattle.wfc_explain.proofs.ProblemLemmas.{sample_shared}
use Rattle.wfc_explain.proofs.overlap_pins.OverlapPinsPinnedProblem.problem.Goals as goal

pub window_base_of_marks-requires-clause-inside : goal.window_base_of_marks-requires-clause-inside
window_base_of_marks-requires-clause-inside c =
    let i = c.self.inside in
    let o : Output = output_with i.width i.height i.wrap in
    let kept : c.deref-2.result.now ≡ kept_of c.args.keep.now i.marks.items =
    c.deref-2.ensures.value ∙ c.in_ok-kept.ensures.value ∙ ap (kept_of c.args.keep.now) c.deref.ensures.value in
    subst (AreInside o) (sym kept) (All-kept (λ (pin : Pin). (pin.column < o.width) × (pin.row < o.height)) c.args.keep.now i.marks.items c.self.invariant.0.inside)

pub from_known-requires : goal.from_known-requires
from_known-requires c =
    let i = c.self.inside in
    let o : Output = output_with i.width i.height i.wrap in
    let kept : c.deref-2.result.now ≡ kept_of c.args.keep.now i.marks.items =
    c.deref-2.ensures.value ∙ c.in_ok-kept.ensures.value ∙ ap (kept_of c.args.keep.now) c.deref.ensures.value in
    let is = sample_shared i.patterns.now o (kept_of c.args.keep.now i.marks.items) _ _ _ c.in_ok-parts.ensures.value c.self.invariant.1
    (c.in_ok-base.ensures.value ∙ ap (window_base_table i.patterns.now.n o i.patterns.now.windows) kept) in
    record { problem = subst IsProblem (sym is) (sample_problem i.patterns.now o (kept_of c.args.keep.now i.marks.items) c.self.invariant.0.patterns_are c.self.invariant.0.room) }
