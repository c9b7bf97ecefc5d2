use Rattle.std.proofs.Common.{arith}
use Rattle.wfc_race.specs.Seen.{runner_seen}
use Rattle.wfc_run_commands.proofs.MakingLemmas.{all_made, none_made, one_more}
use Rattle.wfc_run_commands.proofs.races.runners.Goals as goal
use Rattle.wfc_runs.specs.Words.{generator_words}

pub loop-made-init : goal.loop-made-init
loop-made-init g c =
    none_made (λ chooser. ((goal.Chooser-dyn g (chooser.vtable, chooser.value)).told chooser.value).rule) (runner_seen (λ store. store) generator_words (λ x. (goal.Chooser-dyn g x).told x.1))
    c.args.problem.now c.args.budget c.args.seed c.args.choosers.items c.in_ok-runners.runners.items c.in_ok-runners.ensures.items

pub remove-chooser-requires : goal.remove-chooser-requires
remove-chooser-requires g c = omega (arith, c.loop-made.invariant.many, c.loop-made-test.true)

pub loop-made-preserved : goal.loop-made-preserved
loop-made-preserved g c =
    one_more (λ chooser. ((goal.Chooser-dyn g (chooser.vtable, chooser.value)).told chooser.value).rule) (runner_seen (λ store. store) generator_words (λ x. (goal.Chooser-dyn g x).told x.1))
    c.args.problem.now c.args.budget c.args.seed c.args.choosers.items c.loop-made.choosers.items c.remove-chooser.new.self.items c.loop-made.runners.items c.push.new.self.items c.loop-made.made c.remove-chooser.result c.in_ok-runner.field-0
    c.loop-made.invariant c.in_ok-push.ensures.items (omega (arith, c.loop-made.invariant.many, c.loop-made-test.true)) c.remove-chooser.ensures.value c.remove-chooser.ensures.by_index.2
    c.in_ok-runner.ensures.runner c.in_ok-runner.ensures.entered

pub returns-clause-runners : goal.returns-clause-runners
returns-clause-runners g c = c.loop-made.invariant.each

pub returns-clause-entered : goal.returns-clause-entered
returns-clause-entered g c =
    all_made (λ chooser. ((goal.Chooser-dyn g (chooser.vtable, chooser.value)).told chooser.value).rule) (runner_seen (λ store. store) generator_words (λ x. (goal.Chooser-dyn g x).told x.1))
    c.args.problem.now c.args.budget c.args.seed c.args.choosers.items c.loop-made.choosers.items c.loop-made.runners.items c.loop-made.made c.loop-made.invariant
    (omega (arith, c.loop-made-test.false, c.len-count.ensures))
