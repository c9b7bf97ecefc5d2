use Rattle.std.proofs.Common.{subst, ◌≡◌}
use Rattle.std.specs.Prelude.{IfOk}
use Rattle.wfc_explain.specs.Trials.{explanation_of}
use Rattle.wfc_run_commands.proofs.explain_command.run_explanation.Goals as goal
use Rattle.wfc_runs.specs.Words.{words_of_seed}
use Rattle.wfc_words.specs.RequestView.{RequestView}

pub returns-clause-exact : goal.returns-clause-exact
returns-clause-exact g c = λ rule have.
    subst (λ (asked : RequestView). IfOk c.explain.result (λ said. said ≡ explanation_of (g.M.PinnedProblem.seen c.args.pinned.now) rule asked.budget (words_of_seed asked.seed)))
    c.request.view_is (c.explain.ensures.exact rule have)
