use Rattle.wfc_run_commands.proofs.laws.explanations_are_asked_for_by_example.Goals as goal

pub returns-clause-plain : goal.returns-clause-plain
returns-clause-plain c = record { plain = tt }

pub returns-clause-ranked : goal.returns-clause-ranked
returns-clause-ranked c is = is.plain
