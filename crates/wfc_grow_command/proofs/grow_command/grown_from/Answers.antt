use Rattle.std.proofs.Common.{ap, arith, map, refl, ◌∙◌}
use Rattle.std.proofs.lemmas.Result.{err_from_is_err_and}
use Rattle.wfc_grow_command.proofs.GrowEndLemmas.{by_first}
use Rattle.wfc_grow_command.proofs.grow_command.grown_from.Goals as goal
use Rattle.wfc_grow_command.specs.GrowTask.{growing_view}
use Rattle.wfc_grow_command.specs.declared.growing.TheConstants.{GROW_CHOOSERS}
use Rattle.wfc_reply.proofs.CallerLemmas.{many_taken, put_exhausted, taken_first}
use Rattle.wfc_reply.specs.Choosers.{first_rules}
use Rattle.wfc_words.specs.RequestView.{RequestView}

pub returns-in_err-taken : goal.returns-in_err-taken
returns-in_err-taken g c =
    let p = err_from_is_err_and c.from_residual.result c.from_residual.ensures.1 in
    record { ends = λ folder. rw (p.1, p.2) (put_exhausted _ _ folder _ _ refl) }

pub remove-chooser-requires : goal.remove-chooser-requires
remove-chooser-requires g c =
    let asked = c.args.request.now in
    let rules = map (λ chooser. ((goal.Chooser-dyn g (chooser.vtable, chooser.value)).told chooser.value).rule) c.args.choosers.items in
    let first = c.in_ok-taken.ensures.first ∙ ap (λ (r : RequestView). first_rules GROW_CHOOSERS r.rule rules) c.request.view_is in
    let long = many_taken (λ chooser. ((goal.Chooser-dyn g (chooser.vtable, chooser.value)).told chooser.value).rule) GROW_CHOOSERS asked.rule c.args.choosers.items c.in_ok-taken.taken.items first c.requires.choosers in
    omega (arith, long)

pub grown_with-requires : goal.grown_with-requires
grown_with-requires g c =
    let asked = c.args.request.now in
    let rules = map (λ chooser. ((goal.Chooser-dyn g (chooser.vtable, chooser.value)).told chooser.value).rule) c.args.choosers.items in
    let first = c.in_ok-taken.ensures.first ∙ ap (λ (r : RequestView). first_rules GROW_CHOOSERS r.rule rules) c.request.view_is in
    let t = taken_first (λ chooser. ((goal.Chooser-dyn g (chooser.vtable, chooser.value)).told chooser.value).rule) asked.rule GROW_CHOOSERS c.args.choosers.items c.in_ok-taken.taken.items c.remove-chooser.new.self.items c.remove-chooser.result c.requires.asked.plain (omega arith) c.requires.choosers first
    c.remove-chooser.ensures.value c.remove-chooser.ensures.by_index.2 in
    record { output = c.requires.output; asked = c.requires.asked; growing = c.requires.growing; have = t.have; enough = omega (arith, t.left) }

pub returns : goal.returns
returns g c =
    let asked = c.args.request.now in
    let rules = map (λ chooser. ((goal.Chooser-dyn g (chooser.vtable, chooser.value)).told chooser.value).rule) c.args.choosers.items in
    let first = c.in_ok-taken.ensures.first ∙ ap (λ (r : RequestView). first_rules GROW_CHOOSERS r.rule rules) c.request.view_is in
    let t = taken_first (λ chooser. ((goal.Chooser-dyn g (chooser.vtable, chooser.value)).told chooser.value).rule) asked.rule GROW_CHOOSERS c.args.choosers.items c.in_ok-taken.taken.items c.remove-chooser.new.self.items c.remove-chooser.result c.requires.asked.plain (omega arith) c.requires.choosers first
    c.remove-chooser.ensures.value c.remove-chooser.ensures.by_index.2 in
    record { ends = λ folder. by_first rules asked asked.rule (growing_view c.args.growing.now) _ folder _ _ _ t.first refl (c.grown_with.ensures.ends folder) }
