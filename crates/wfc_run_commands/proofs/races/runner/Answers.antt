use Rattle.std.proofs.Common.{ap, ◌∙◌}
use Rattle.wfc_domains.specs.Store.{StoreView}
use Rattle.wfc_race.proofs.CallerLemmas.{entered_is}
use Rattle.wfc_race.specs.Seen.{Seen, runner_seen}
use Rattle.wfc_run_commands.proofs.races.runner.Goals as goal
use Rattle.wfc_runs.specs.Words.{generator_words, words_of_seed}

pub returns-clause-entered : goal.returns-clause-entered
returns-clause-entered g c =
    let made = c.in-Ok-open.ensures in
    let s : Seen = runner_seen (λ store. store) generator_words (λ x. (goal.Chooser-dyn g x).told x.1) (record { search = c.in-Ok-open.search; words = c.words_of_seed-words.result }) in
    entered_is _ c.args.budget (words_of_seed c.args.seed) s (record {
      rule_is = made.rule;
      budget_is = made.budget;
      empty = ap (λ (v : StoreView). v.standing) made.store ∙ c.in-Ok.ensures.opened.standing;
      none = made.retractions;
      words_are = c.words_of_seed-words.ensures.value;
      free = made.going.outcome;
    })
