use Rattle.wfc_run_commands.proofs.explain_command.answer.Given as goal

-- the ledger is that of the blank
abbrev pub ghosts-run_explanation : goal.ghosts-run_explanation
ghosts-run_explanation g a = record { name = a.blank.name; parts = a.blank.parts }
