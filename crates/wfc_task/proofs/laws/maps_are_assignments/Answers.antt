use Rattle.wfc_task.proofs.MapLemmas.{bridged}
use Rattle.wfc_task.proofs.laws.maps_are_assignments.Goals as goal

pub returns-clause-made : goal.returns-clause-made
returns-clause-made c asked files P posed asks output a legal = (bridged asked.source asked files P posed asks output).makes a legal

pub returns-clause-there : goal.returns-clause-there
returns-clause-there c asked files P posed asks output m legal = (bridged asked.source asked files P posed asks output).assigned m legal
