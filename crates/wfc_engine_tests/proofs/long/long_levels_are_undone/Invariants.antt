use Rattle.wfc_engine_tests.proofs.long.long_levels_are_undone.Given as goal

-- the ledger is that of the blank
abbrev pub ghosts-long_and_short : goal.ghosts-long_and_short
ghosts-long_and_short g a = record { name = a.blank.name; parts = a.blank.parts }
