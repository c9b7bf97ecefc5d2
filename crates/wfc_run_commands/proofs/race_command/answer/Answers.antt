use Rattle.std.proofs.Common.{ap, arith, map, ◌∙◌}
use Rattle.std.proofs.lemmas.List.{length-map}
use Rattle.wfc_reply.proofs.CallerLemmas.{many_taken}
use Rattle.wfc_run_commands.proofs.RacerLemmas.{answers_said, seed_in}
use Rattle.wfc_run_commands.proofs.race_command.answer.Goals as goal
use Rattle.wfc_run_commands.specs.Racing.{runners_of}
use Rattle.wfc_words.specs.RequestView.{RequestView}

pub run_race-requires-clause-some : goal.run_race-requires-clause-some
run_race-requires-clause-some g c =
    let first = c.in_ok-runners.ensures.first ∙ ap (λ (r : RequestView). runners_of (map (λ chooser. ((goal.Chooser-dyn g (chooser.vtable, chooser.value)).told chooser.value).rule) c.args.choosers.items) r) c.request.view_is in
    let many = many_taken (λ chooser. ((goal.Chooser-dyn g (chooser.vtable, chooser.value)).told chooser.value).rule) c.args.request.now.seeds c.args.request.now.rule c.args.choosers.items c.in_ok-runners.runners.items first c.requires.choosers in
    omega (arith, many, c.requires.runners.some)

pub told_in-requires : goal.told_in-requires
told_in-requires g c =
    let first = c.in_ok-runners.ensures.first ∙ ap (λ (r : RequestView). runners_of (map (λ chooser. ((goal.Chooser-dyn g (chooser.vtable, chooser.value)).told chooser.value).rule) c.args.choosers.items) r) c.request.view_is in
    let many = many_taken (λ chooser. ((goal.Chooser-dyn g (chooser.vtable, chooser.value)).told chooser.value).rule) c.args.request.now.seeds c.args.request.now.rule c.args.choosers.items c.in_ok-runners.runners.items first c.requires.choosers in
    record {
      seed_in = seed_in c.args.problem.now (map (λ chooser. ((goal.Chooser-dyn g (chooser.vtable, chooser.value)).told chooser.value).rule) c.in_ok-runners.runners.items) c.args.request.now.budget c.args.request.now.seed c.args.request.now.quantum c.in_ok-raced.raced c.in_ok-raced.ensures.raced
          (omega (arith, many, length-map c.in_ok-runners.runners.items (λ chooser. ((goal.Chooser-dyn g (chooser.vtable, chooser.value)).told chooser.value).rule), c.requires.runners.fits));
    }

pub returns : goal.returns
returns g c =
    let first = c.in_ok-runners.ensures.first ∙ ap (λ (r : RequestView). runners_of (map (λ chooser. ((goal.Chooser-dyn g (chooser.vtable, chooser.value)).told chooser.value).rule) c.args.choosers.items) r) c.request.view_is in
    record {
      answers = answers_said (map (λ chooser. ((goal.Chooser-dyn g (chooser.vtable, chooser.value)).told chooser.value).rule) c.args.choosers.items) (map (λ chooser. ((goal.Chooser-dyn g (chooser.vtable, chooser.value)).told chooser.value).rule) c.in_ok-runners.runners.items) c.args.problem.now c.args.request.now c.in_ok-raced.raced c.told_in.result first c.in_ok-raced.ensures.raced c.told_in.ensures.answers;
    }
