use Rattle.std.proofs.Common.{ap, ◌∙◌}
use Rattle.wfc_runs.specs.Words.{words_of_seed}
use Rattle.wfc_explain.specs.Outcomes.{outcome_with}
use Rattle.wfc_explain.specs.Trials.{TrialView, lines_without}
use Rattle.wfc_explain.proofs.TrialLemmas.{tried_by}
use Rattle.wfc_explain.proofs.trial.Trial.look_at.Goals as goal

pub returns : goal.returns
returns g c =
    let run = outcome_with (g.M.PinnedProblem.seen c.args.pinned.now) ((goal.Chooser-dyn g (c.args.chooser.vtable, c.args.chooser.value)).told c.args.chooser.value).rule c.args.budget (words_of_seed c.args.seed) in
    record {
      tried = tried_by run c.args.self.now _ c.decide.new.self c.args.line c.in_ok-outcome.outcome c.decide.result
          (ap (λ (t : TrialView). record { keep = lines_without t.keep c.args.line; core = t.core }) c.self.view_is)
          (c.in_ok-outcome.ensures.exact ∙ ap run c.deref.ensures.value) c.decide.ensures.decided;
    }
