use Rattle.wfc_search_tests.proofs.races.maps_are_found.Given as goal

-- the ledger is that of the blank
abbrev pub ghosts-race_ends : goal.ghosts-race_ends
ghosts-race_ends g a = record { name = a.blank.name; parts = a.blank.parts }
