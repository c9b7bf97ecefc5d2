use Rattle.wfc_runs.proofs.runs.run.Given as goal

-- the ledger is that of the blank
abbrev pub ghosts-run_with_blank : goal.ghosts-run_with_blank
ghosts-run_with_blank g a = record { name = a.blank.name; parts = a.blank.parts }
