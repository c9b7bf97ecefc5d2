use Rattle.std.proofs.Common.{ap, arith, map, ◌∙◌}
use Rattle.std.proofs.lemmas.List.{length-map}
use Rattle.wfc_race.proofs.CallerLemmas.{are_runners, problem_is}
use Rattle.wfc_race.specs.Seen.{problem_of, racers_of, runner_seen, seens}
use Rattle.wfc_run_commands.proofs.MakingLemmas.{many_made, none_out, raced_is}
use Rattle.wfc_run_commands.proofs.races.race.Goals as goal
use Rattle.wfc_run_commands.specs.Races.{entrants}
use Rattle.wfc_runs.specs.Words.{generator_words}

pub new-race-requires-clause-ready : goal.new-race-requires-clause-ready
new-race-requires-clause-ready g c =
    let f = runner_seen (λ store. store) generator_words (λ x. (goal.Chooser-dyn g x).told x.1) in
    let xs = c.in_ok-runners.runners.items in
    let many = many_made (λ chooser. ((goal.Chooser-dyn g (chooser.vtable, chooser.value)).told chooser.value).rule) f c.args.budget c.args.seed c.args.choosers.items xs c.in_ok-runners.ensures.entered in
    are_runners c.args.problem.now (map f xs) (omega (arith, many, length-map xs f, c.requires.some)) (omega (arith, many, length-map xs f, c.requires.few)) c.in_ok-runners.ensures.runners

pub new-race-requires-clause-going : goal.new-race-requires-clause-going
new-race-requires-clause-going g c =
    let f = runner_seen (λ store. store) generator_words (λ x. (goal.Chooser-dyn g x).told x.1) in
    none_out f (map (λ chooser. ((goal.Chooser-dyn g (chooser.vtable, chooser.value)).told chooser.value).rule) c.args.choosers.items) c.args.budget c.args.seed
    c.in_ok-runners.runners.items c.in_ok-runners.ensures.entered

pub returns : goal.returns
returns g c =
    let f = runner_seen (λ store. store) generator_words (λ x. (goal.Chooser-dyn g x).told x.1) in
    let xs = c.in_ok-runners.runners.items in
    let many = many_made (λ chooser. ((goal.Chooser-dyn g (chooser.vtable, chooser.value)).told chooser.value).rule) f c.args.budget c.args.seed c.args.choosers.items xs c.in_ok-runners.ensures.entered in
    let old = seens (λ store. store) generator_words (λ x. (goal.Chooser-dyn g x).told x.1) c.new-race.result in
    let new = seens (λ store. store) generator_words (λ x. (goal.Chooser-dyn g x).told x.1) c.round-end.new.self in
    record {
      raced = (
        c.round-end.result,
        racers_of new,
        raced_is c.args.problem.now (problem_of old) (racers_of old) (entrants (map (λ chooser. ((goal.Chooser-dyn g (chooser.vtable, chooser.value)).told chooser.value).rule) c.args.choosers.items) c.args.budget c.args.seed) c.args.quantum _ c.round-end.ensures.end
            (ap (λ ys. problem_of (map f ys)) c.new-race.ensures.runners
            ∙ problem_is c.args.problem.now (map f xs) (omega (arith, many, length-map xs f, c.requires.some)) c.in_ok-runners.ensures.runners)
            (ap (λ ys. racers_of (map f ys)) c.new-race.ensures.runners ∙ c.in_ok-runners.ensures.entered),
        c.told_of.ensures.answers,
      );
    }
