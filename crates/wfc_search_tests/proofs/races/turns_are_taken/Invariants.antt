use Rattle.wfc_search_tests.proofs.races.turns_are_taken.Given as goal

-- the ledger is that of the blank
abbrev pub ghosts-second_is_ahead : goal.ghosts-second_is_ahead
ghosts-second_is_ahead g a = record { name = a.blank.name; parts = a.blank.parts }
