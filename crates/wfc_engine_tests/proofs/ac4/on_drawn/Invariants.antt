use Rattle.wfc_engine_tests.proofs.ac4.on_drawn.Given as goal

-- the ledger is that of the blank
abbrev pub ghosts-side_by_side : goal.ghosts-side_by_side
ghosts-side_by_side g a = record { name = a.blank.name; parts = a.blank.parts }
