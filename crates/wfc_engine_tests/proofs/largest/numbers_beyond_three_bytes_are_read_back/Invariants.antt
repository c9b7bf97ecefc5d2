use Rattle.wfc_engine_tests.proofs.largest.numbers_beyond_three_bytes_are_read_back.Given as goal

-- the ledger is that of the blank
abbrev pub ghosts-both_lists : goal.ghosts-both_lists
ghosts-both_lists g a = record { name = a.blank.name; parts = a.blank.parts }
