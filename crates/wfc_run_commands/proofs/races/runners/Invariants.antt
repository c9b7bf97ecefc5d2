use Rattle.wfc_race.specs.Seen.{runner_seen}
use Rattle.wfc_run_commands.proofs.MakingLemmas.{IsMade}
use Rattle.wfc_run_commands.proofs.races.runners.Given as goal
use Rattle.wfc_runs.specs.Words.{generator_words}

-- the first choosers have their runners, and the others are left
abbrev pub invariant-loop-made : goal.invariant-loop-made
invariant-loop-made g l =
    IsMade (λ chooser. ((goal.Chooser-dyn g (chooser.vtable, chooser.value)).told chooser.value).rule) (runner_seen (λ store. store) generator_words (λ x. (goal.Chooser-dyn g x).told x.1))
    l.problem l.budget l.seed l.fn.choosers.items l.choosers.items l.runners.items l.made
