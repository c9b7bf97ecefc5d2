use Rattle.std.proofs.Common.{Err, Ok, Result, ap, refl, subst, sym, ◌∙◌}
use Rattle.std.proofs.lemmas.Result.{err_from_is_err_and}
use Rattle.wfc_blocks.specs.StuckView.{StuckView}
use Rattle.wfc_blocks.specs.declared.grown.Grown.TheVariants as grown
use Rattle.wfc_grow_command.proofs.GrowEndLemmas.{map_short, stuck_done, stuck_stopped, stuck_unfinished}
use Rattle.wfc_grow_command.proofs.StuckProblemLemmas.{problem_given, problem_short, put_as}
use Rattle.wfc_grow_command.proofs.stuck_block.put_stuck.Goals as goal
use Rattle.wfc_grow_command.specs.GrowAnswer.{stuck_verdict}
use Rattle.wfc_grow_command.specs.GrowTask.{growing_view}
use Rattle.wfc_grow_command.specs.Growing.{PutsGrown}
use Rattle.wfc_grow_command.specs.StuckText.{block_writing, stuck_text}
use Rattle.wfc_reply.specs.declared.reply.Stop.{Stop}
use Rattle.wfc_reply.specs.declared.reply.CommandVerdict.{CommandVerdict}
use Rattle.wfc_search.specs.declared.Outcome.{Outcome}

pub returns-in_err-text : goal.returns-in_err-text
returns-in_err-text g c =
    let p = err_from_is_err_and c.from_residual.result c.from_residual.ensures.1 in
    record { puts = rw (p.1, p.2) (map_short _ c.args.request.now (growing_view c.args.growing.now) (grown.Stuck c.args.stuck.now) _ _ refl) }

pub stuck_problem-requires : goal.stuck_problem-requires
stuck_problem-requires g c = record { some_width = c.requires.run.some_width; some_height = c.requires.run.some_height; width_limit = c.requires.run.width_limit; height_limit = c.requires.run.height_limit }

pub returns-in_err-problem : goal.returns-in_err-problem
returns-in_err-problem g c =
    let p = err_from_is_err_and c.from_residual-in_err-problem.result c.from_residual-in_err-problem.ensures.1 in
    record {
      puts = rw (p.1, p.2) (map_short _ c.args.request.now (growing_view c.args.growing.now) (grown.Stuck c.args.stuck.now) _ _ (problem_short _ c.requires.run.P c.in_err-problem.field-0.0 c.requires.run.problem c.in_err-problem.ensures.exact));
    }

pub returns-in_err-put_run_behind : goal.returns-in_err-put_run_behind
returns-in_err-put_run_behind g c =
    let p = err_from_is_err_and c.from_residual-in_err-put_run_behind.result c.from_residual-in_err-put_run_behind.ensures.1 in
    let rule = ((goal.Chooser-dyn g (c.args.chooser.vtable, c.args.chooser.value)).told c.args.chooser.value).rule in
    let asked = c.args.request.now in
    let stuck = c.args.stuck.now in
    let same = problem_given _ c.requires.run.P c.in_ok-problem.problem c.requires.run.problem c.in_ok-problem.ensures.exact in
    let made = c.block_writing-writing.ensures.value ∙ ap (λ (s : StuckView). block_writing asked s.block) c.stuck.view_is in
    let ended : Result Outcome Stop = Err c.in_err-put_run_behind.field-0.0 in
    let put = put_as c.deref.result.now (stuck_text stuck) rule c.block_writing-writing.result (block_writing asked stuck.block) c.in_ok-problem.problem c.requires.run.P (g.O.Sink.seen c.args.out.now) (g.O.Sink.seen c.put_run_behind.new.out)
    ended (c.deref.ensures.value ∙ c.in_ok-text.ensures.text) made same c.in_err-put_run_behind.ensures.puts in
    record { puts = rw (p.1, p.2) (stuck_stopped rule asked (growing_view c.args.growing.now) stuck c.requires.run c.in_err-put_run_behind.field-0.0 _ _ put) }

pub returns-in_err-finish : goal.returns-in_err-finish
returns-in_err-finish g c =
    let p = err_from_is_err_and c.from_residual-in_err-finish.result c.from_residual-in_err-finish.ensures.1 in
    let rule = ((goal.Chooser-dyn g (c.args.chooser.vtable, c.args.chooser.value)).told c.args.chooser.value).rule in
    let asked = c.args.request.now in
    let stuck = c.args.stuck.now in
    let same = problem_given _ c.requires.run.P c.in_ok-problem.problem c.requires.run.problem c.in_ok-problem.ensures.exact in
    let made = c.block_writing-writing.ensures.value ∙ ap (λ (s : StuckView). block_writing asked s.block) c.stuck.view_is in
    let ended : Result Outcome Stop = Ok c.in_ok-put_run_behind.field-0 in
    let put = put_as c.deref.result.now (stuck_text stuck) rule c.block_writing-writing.result (block_writing asked stuck.block) c.in_ok-problem.problem c.requires.run.P (g.O.Sink.seen c.args.out.now) (g.O.Sink.seen c.put_run_behind.new.out)
    ended (c.deref.ensures.value ∙ c.in_ok-text.ensures.text) made same c.in_ok-put_run_behind.ensures.puts in
    record { puts = rw (p.1, p.2) (stuck_unfinished rule asked (growing_view c.args.growing.now) stuck c.requires.run c.in_ok-put_run_behind.field-0 _ _ _ put c.in_err-finish.ensures.finished) }

pub returns : goal.returns
returns g c =
    let rule = ((goal.Chooser-dyn g (c.args.chooser.vtable, c.args.chooser.value)).told c.args.chooser.value).rule in
    let asked = c.args.request.now in
    let task = growing_view c.args.growing.now in
    let stuck = c.args.stuck.now in
    let old = g.O.Sink.seen c.args.out.now in
    let mid = g.O.Sink.seen c.put_run_behind.new.out in
    let new = g.O.Sink.seen c.finish.new.self in
    let same = problem_given _ c.requires.run.P c.in_ok-problem.problem c.requires.run.problem c.in_ok-problem.ensures.exact in
    let made = c.block_writing-writing.ensures.value ∙ ap (λ (s : StuckView). block_writing asked s.block) c.stuck.view_is in
    let ended : Result Outcome Stop = Ok c.in_ok-put_run_behind.field-0 in
    let put = put_as c.deref.result.now (stuck_text stuck) rule c.block_writing-writing.result (block_writing asked stuck.block) c.in_ok-problem.problem c.requires.run.P old mid ended (c.deref.ensures.value ∙ c.in_ok-text.ensures.text) made same
    c.in_ok-put_run_behind.ensures.puts in
    record {
      puts = subst (λ (s : StuckView). let end : Result CommandVerdict Stop = Ok (stuck_verdict s) in PutsGrown rule asked task (grown.Stuck stuck) old new end) (sym c.stuck.view_is)
          (stuck_done rule asked task stuck c.requires.run c.in_ok-put_run_behind.field-0 old mid new put c.in_ok-finish.ensures.finished);
    }
