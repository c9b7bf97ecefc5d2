use Rattle.std.proofs.Common.{◌≡◌, ap, length, ◌∙◌, arith}
use Rattle.wfc_runs.specs.Words.{words_of_seed}
use Rattle.wfc_explain.specs.Outcomes.{outcome_with}
use Rattle.wfc_explain.specs.Trials.{TrialView, core_of, trial_after}
use Rattle.wfc_explain.proofs.TrialLemmas.{decided_long, next_tried, one_less}
use Rattle.wfc_explain.proofs.trial.leave_out_in_turn.Goals as goal

pub loop-line-preserved : goal.loop-line-preserved
loop-line-preserved g c =
    let v = g.M.PinnedProblem.seen c.args.pinned.now in
    let was = c.loop-line.invariant in
    let taken = c.take-chooser.ensures.taken in (
      omega (arith, was.0, one_less c.loop-line.left.items c.take-chooser.new.choosers.items c.take-chooser.result taken),
      ap (λ (t : TrialView). length t.keep) c.in_ok-look_at.ensures.tried ∙ decided_long c.loop-line.trial c.loop-line.line _ ∙ was.1,
      λ rule have. let before = was.2 rule have in
          next_tried _ c.loop-line.left.items c.take-chooser.new.choosers.items c.take-chooser.result taken v c.args.budget (words_of_seed c.args.seed) c.lines-lines.result c.loop-line.line
          c.loop-line.trial c.look_at.new.self c.in_ok-look_at.ensures.tried rule before.0 before.1,
    )

pub returns : goal.returns
unfolding core_of
returns g c =
    let v = g.M.PinnedProblem.seen c.args.pinned.now in
    let same : c.loop-line.line ≡ c.lines-lines.result = omega (arith, c.loop-line-test.false, c.loop-line.auto.line-end) in
    let lines = c.lines-lines.ensures.value in
    record {
      exact = λ rule have.
          c.into_core.ensures.value ∙ ap (λ (t : TrialView). t.core) (c.loop-line.invariant.2 rule have).1
          ∙ (λ i. (trial_after (outcome_with v rule c.args.budget (words_of_seed c.args.seed)) (lines i) ((same ∙ lines) i)).core);
    }
