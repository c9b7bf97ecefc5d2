use Rattle.std.proofs.Common.{List, subst, ◌≡◌}
use Rattle.wfc_map_commands.proofs.FillGivenLemmas.{fill_given, given_fill}
use Rattle.wfc_map_commands.proofs.laws.fill_tasks_are_given.Goals as goal
use Rattle.wfc_map_commands.specs.FillGiven.{IsFillTask}
use Rattle.wfc_map_commands.specs.FillTask.{fill}
use Rattle.wfc_pattern.specs.Patterns.{PatternsView}
use Rattle.wfc_picture.specs.declared.symbol.Symbol.{Symbol}
use Rattle.wfc_problem.specs.Network.{Network}
use Rattle.wfc_render.specs.declared.form.Layout.{Layout}

pub returns : goal.returns
returns c = record {
  task = λ kinds asked windows files patterns palette layout P. (
    λ is.
        let given = fill_given kinds asked files (fill patterns palette layout P) windows is in
        let same : given.0 ≡ patterns = cc (given.4) in
        let symbols : given.1 ≡ palette = cc (given.4) in
        let written : given.2 ≡ layout = cc (given.4) in
        let problem : given.3 ≡ P = cc (given.4) in
        subst (λ (p : PatternsView). IsFillTask kinds asked files p palette layout P) same (subst (λ (s : List Symbol). IsFillTask kinds asked files given.0 s layout P) symbols
        (subst (λ (l : Layout). IsFillTask kinds asked files given.0 given.1 l P) written (subst (λ (q : Network). IsFillTask kinds asked files given.0 given.1 given.2 q) problem given.5))),
    given_fill kinds asked files patterns palette layout P windows,
  );
}
