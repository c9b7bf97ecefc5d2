use Rattle.std.proofs.Common.{List, subst, ◌≡◌}
use Rattle.wfc_map_commands.proofs.LearnGivenLemmas.{given_learn, learn_given}
use Rattle.wfc_map_commands.proofs.laws.learn_tasks_are_given.Goals as goal
use Rattle.wfc_map_commands.specs.LearnTask.{learn}
use Rattle.wfc_pattern.specs.Patterns.{PatternsView}
use Rattle.wfc_picture.specs.declared.symbol.Symbol.{Symbol}
use Rattle.wfc_task.specs.Given.{IsTaught}

pub returns : goal.returns
returns c = record {
  task = λ asked windows files patterns palette. (
    λ is.
        let given = learn_given asked files (learn patterns palette) windows is in
        let same : given.0 ≡ patterns = cc (given.2) in
        let other : given.1 ≡ palette = cc (given.2) in
        subst (λ (p : PatternsView). IsTaught asked files p palette) same (subst (λ (s : List Symbol). IsTaught asked files given.0 s) other given.3),
    given_learn asked files patterns palette windows,
  );
}
