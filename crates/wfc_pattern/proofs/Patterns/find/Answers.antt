use Rattle.std.proofs.Common.{Some, position, sym, subst, ap, ◌∙◌, nat_eq}
use Rattle.std.specs.Cmp.Lexicographic.{pointwise}
use Rattle.wfc_pattern.specs.Patterns.{PatternsView, AreDifferent}
use Rattle.wfc_pattern.proofs.PatternsLemmas.{found_there, found_again, not_found}
use Rattle.wfc_pattern.proofs.SeenLemmas.{place_seen}
use Rattle.wfc_pattern.proofs.Patterns.find.Goals as goal

pub returns-in_err-number-clause-value : goal.returns-in_err-number-clause-value
returns-in_err-number-clause-value c =
    let w = c.args.window.now in
    c.from_residual.ensures
    ∙ sym c.in_err-number.was
    ∙ c.get_index_of.ensures.index
    ∙ place_seen w c.self.inside.counts.entries
    ∙ ap (λ (v : PatternsView). position (pointwise nat_eq w) v.windows) c.self.view_is

pub returns-in_err-number-clause-inverse : goal.returns-in_err-number-clause-inverse
returns-in_err-number-clause-inverse c = found_again c.args.self.now.windows c.args.window.now c.from_residual.result (subst (λ (v : PatternsView). AreDifferent v.windows) c.self.view_is c.self.invariant.different) (returns-in_err-number-clause-value c)

pub returns-in_err-number-clause-absent : goal.returns-in_err-number-clause-absent
returns-in_err-number-clause-absent c = not_found c.args.self.now.windows c.args.window.now c.from_residual.result (returns-in_err-number-clause-value c)

pub returns-clause-value : goal.returns-clause-value
returns-clause-value c =
    let w = c.args.window.now in
    sym c.in_ok-number.was ∙ c.get_index_of.ensures.index ∙ place_seen w c.self.inside.counts.entries ∙ ap (λ (v : PatternsView). position (pointwise nat_eq w) v.windows) c.self.view_is

pub returns-clause-found : goal.returns-clause-found
returns-clause-found c = found_there c.args.self.now.windows c.args.window.now (Some c.in_ok-number.number) (returns-clause-value c)

pub returns-clause-inverse : goal.returns-clause-inverse
returns-clause-inverse c = found_again c.args.self.now.windows c.args.window.now (Some c.in_ok-number.number) (subst (λ (v : PatternsView). AreDifferent v.windows) c.self.view_is c.self.invariant.different) (returns-clause-value c)

pub returns-clause-absent : goal.returns-clause-absent
returns-clause-absent c = not_found c.args.self.now.windows c.args.window.now (Some c.in_ok-number.number) (returns-clause-value c)
