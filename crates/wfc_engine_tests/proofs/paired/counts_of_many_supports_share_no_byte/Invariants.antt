use Rattle.wfc_engine_tests.proofs.paired.counts_of_many_supports_share_no_byte.Given as goal

-- the ledger is that of the blank
abbrev pub ghosts-gives_and_takes : goal.ghosts-gives_and_takes
ghosts-gives_and_takes g a = record { name = a.blank.name; parts = a.blank.parts }
