use Rattle.wfc_engine_tests.proofs.ac4.a_line_is_closed.Given as goal

-- the ledger is that of the blank
abbrev pub ghosts-closes_the_line : goal.ghosts-closes_the_line
ghosts-closes_the_line g a = record { name = a.blank.name; parts = a.blank.parts }
