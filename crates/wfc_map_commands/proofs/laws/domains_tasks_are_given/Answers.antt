use Rattle.std.proofs.Common.{List, subst, ◌≡◌}
use Rattle.wfc_map_commands.proofs.DomainsGivenLemmas.{domains_given, given_domains}
use Rattle.wfc_map_commands.proofs.laws.domains_tasks_are_given.Goals as goal
use Rattle.wfc_map_commands.specs.DomainsGiven.{IsDomainsTask}
use Rattle.wfc_map_commands.specs.DomainsTask.{domains}
use Rattle.wfc_pins.specs.declared.steps.StepLine.{StepLine}
use Rattle.wfc_problem.specs.Network.{Network}

pub returns : goal.returns
returns c = record {
  task = λ asked files P steps. (
    λ is.
        let given = domains_given asked files (domains P steps) is in
        let problem : given.0 ≡ P = cc (given.2) in
        let said : given.1 ≡ steps = cc (given.2) in
        subst (λ (q : Network). IsDomainsTask asked files q steps) problem (subst (λ (s : List StepLine). IsDomainsTask asked files given.0 s) said given.3),
    given_domains asked files P steps,
  );
}
