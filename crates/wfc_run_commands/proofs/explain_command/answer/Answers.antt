use Rattle.std.proofs.Common.{List, ap, arith, map, subst, sym, ◌+◌, ◌∙◌, ◌≤◌}
use Rattle.wfc_choose.specs.Pick.{Rule}
use Rattle.wfc_reply.proofs.CallerLemmas.{has_first, many_taken}
use Rattle.wfc_reply.specs.Choosers.{first_rules}
use Rattle.wfc_run_commands.proofs.ExplainRuleLemmas.{explained_answers, fewer_choosers, lines_in}
use Rattle.wfc_run_commands.proofs.explain_command.answer.Goals as goal
use Rattle.wfc_run_commands.specs.ExplainTask.{line_numbers}
use Rattle.wfc_run_commands.specs.declared.explaining.TheConstants.{EXPLAIN_CHOOSERS}
use Rattle.wfc_runs.specs.Alike.{HaveRule}
use Rattle.wfc_words.specs.RequestView.{RequestView}

pub run_explanation-requires-clause-choosers : goal.run_explanation-requires-clause-choosers
run_explanation-requires-clause-choosers g c =
    let rules = map (λ chooser. ((goal.Chooser-dyn g (chooser.vtable, chooser.value)).told chooser.value).rule) c.args.choosers.items in
    let asked = c.args.request.now in
    let many = c.lines-many.result + 1 in
    let first = c.in_ok-taken.ensures.first ∙ ap (λ (r : RequestView). first_rules many r.rule rules) c.request.view_is in
    let low : many ≤ EXPLAIN_CHOOSERS = omega (arith, c.lines-many.ensures.value, c.requires.each_line, c.requires.few) in
    let long = many_taken (λ chooser. ((goal.Chooser-dyn g (chooser.vtable, chooser.value)).told chooser.value).rule) many asked.rule c.args.choosers.items c.in_ok-taken.taken.items first (fewer_choosers many EXPLAIN_CHOOSERS asked.rule rules low c.requires.choosers) in
    omega (arith, long, c.lines-many.ensures.value)

pub run_explanation-requires-clause-alike : goal.run_explanation-requires-clause-alike
run_explanation-requires-clause-alike g c =
    let rules = map (λ chooser. ((goal.Chooser-dyn g (chooser.vtable, chooser.value)).told chooser.value).rule) c.args.choosers.items in
    let asked = c.args.request.now in
    let many = c.lines-many.result + 1 in
    let first = c.in_ok-taken.ensures.first ∙ ap (λ (r : RequestView). first_rules many r.rule rules) c.request.view_is in
    let f = has_first asked.rule rules many EXPLAIN_CHOOSERS c.requires.asked.plain (omega arith) c.requires.choosers in
    (f.first, subst (λ (rs : List Rule). HaveRule rs f.first) (sym first) f.have)

pub told_in-requires : goal.told_in-requires
told_in-requires g c = record { inside = lines_in _ c.in_ok-said.said _ c.requires.each_line c.in_ok-said.ensures.blamed }

pub returns : goal.returns
returns g c =
    let rules = map (λ chooser. ((goal.Chooser-dyn g (chooser.vtable, chooser.value)).told chooser.value).rule) c.args.choosers.items in
    let asked = c.args.request.now in
    let many = c.lines-many.result + 1 in
    let first = c.in_ok-taken.ensures.first ∙ ap (λ (r : RequestView). first_rules many r.rule rules) c.request.view_is in
    let f = has_first asked.rule rules many EXPLAIN_CHOOSERS c.requires.asked.plain (omega arith) c.requires.choosers in
    record {
      answers = explained_answers rules asked _ (line_numbers c.args.lines.now) f.first c.in_ok-said.said c.told_in.result f.is
          (c.in_ok-said.ensures.exact f.first (subst (λ (rs : List Rule). HaveRule rs f.first) (sym first) f.have)) c.told_in.ensures.answers;
    }
