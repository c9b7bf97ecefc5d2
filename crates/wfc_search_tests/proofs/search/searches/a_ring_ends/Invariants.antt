use Rattle.wfc_search_tests.proofs.search.searches.a_ring_ends.Given as goal

-- the ledger is that of the blank
abbrev pub ghosts-ring_ends : goal.ghosts-ring_ends
ghosts-ring_ends g a = record { name = a.blank.name; parts = a.blank.parts }
