use Rattle.wfc_run_commands.proofs.race_command.answer.Given as goal

-- the ledger is that of the blank
abbrev pub ghosts-run_race : goal.ghosts-run_race
ghosts-run_race g a = record { name = a.blank.name; parts = a.blank.parts }
