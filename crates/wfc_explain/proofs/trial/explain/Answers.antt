use Rattle.std.proofs.Common.{ap, sym, subst, ◌∙◌}
use Rattle.wfc_search.specs.declared.Outcome.{Outcome}
use Rattle.wfc_search.specs.declared.Outcome.TheVariants as outcome
use Rattle.wfc_explain.specs.Blame.{IsTrueExplained}
use Rattle.wfc_runs.specs.Words.{words_of_seed}
use Rattle.wfc_explain.specs.Trials.{all_lines, core_of, explanation_by}
use Rattle.wfc_explain.specs.declared.explained.Explained.TheVariants.{Core}
use Rattle.wfc_explain.proofs.BlameLemmas.{explained_true}
use Rattle.wfc_explain.proofs.TrialLemmas.{first_outcome, rule_last}
use Rattle.wfc_explain.proofs.trial.explain.Goals as goal

pub returns-in-Map-clause-exact : goal.returns-in-Map-clause-exact
returns-in-Map-clause-exact g c rule have =
    let v = g.M.PinnedProblem.seen c.args.pinned.now in
    let words = words_of_seed c.args.seed in
    let first = first_outcome _ c.args.choosers.items c.take-chooser.new.choosers.items c.take-chooser.result c.take-chooser.ensures.taken v c.args.budget words
    c.deref.result.now outcome.Map (c.deref.ensures.value ∙ c.in_ok-keep.ensures.value ∙ ap all_lines c.lines.ensures.value)
    (sym c.in-Map.is ∙ c.in_ok-outcome_with.ensures.exact) rule have in
    ap (λ (o : Outcome). explanation_by o (core_of v rule c.args.budget words)) first

pub returns-in-Map-clause-blamed : goal.returns-in-Map-clause-blamed
returns-in-Map-clause-blamed g c =
    let v = g.M.PinnedProblem.seen c.args.pinned.now in
    let one = c.requires.alike in
    subst (IsTrueExplained v) (sym (returns-in-Map-clause-exact g c one.0 one.1)) (explained_true v c.lines.ensures.pinned one.0 c.args.budget (words_of_seed c.args.seed))

pub returns-in_ok-core-in-NoMap-clause-exact : goal.returns-in_ok-core-in-NoMap-clause-exact
returns-in_ok-core-in-NoMap-clause-exact g c rule have =
    let v = g.M.PinnedProblem.seen c.args.pinned.now in
    let words = words_of_seed c.args.seed in
    let first = first_outcome _ c.args.choosers.items c.take-chooser.new.choosers.items c.take-chooser.result c.take-chooser.ensures.taken v c.args.budget words
    c.deref.result.now outcome.NoMap (c.deref.ensures.value ∙ c.in_ok-keep.ensures.value ∙ ap all_lines c.lines.ensures.value)
    (sym c.in-NoMap.is ∙ c.in_ok-outcome_with.ensures.exact) rule have in
    let rest = (rule_last _ c.args.choosers.items c.take-chooser.new.choosers.items c.take-chooser.result c.take-chooser.ensures.taken rule have).1 in
    ap Core (c.in_ok-core-in-NoMap.ensures.exact rule rest)
    ∙ ap (λ (o : Outcome). explanation_by o (core_of v rule c.args.budget words)) first

pub returns-in_ok-core-in-NoMap-clause-blamed : goal.returns-in_ok-core-in-NoMap-clause-blamed
returns-in_ok-core-in-NoMap-clause-blamed g c =
    let v = g.M.PinnedProblem.seen c.args.pinned.now in
    let one = c.requires.alike in
    subst (IsTrueExplained v) (sym (returns-in_ok-core-in-NoMap-clause-exact g c one.0 one.1)) (explained_true v c.lines.ensures.pinned one.0 c.args.budget (words_of_seed c.args.seed))

pub returns-in-Spent-clause-exact : goal.returns-in-Spent-clause-exact
returns-in-Spent-clause-exact g c rule have =
    let v = g.M.PinnedProblem.seen c.args.pinned.now in
    let words = words_of_seed c.args.seed in
    let first = first_outcome _ c.args.choosers.items c.take-chooser.new.choosers.items c.take-chooser.result c.take-chooser.ensures.taken v c.args.budget words
    c.deref.result.now outcome.Spent (c.deref.ensures.value ∙ c.in_ok-keep.ensures.value ∙ ap all_lines c.lines.ensures.value)
    (sym c.in-Spent.is ∙ c.in_ok-outcome_with.ensures.exact) rule have in
    ap (λ (o : Outcome). explanation_by o (core_of v rule c.args.budget words)) first
