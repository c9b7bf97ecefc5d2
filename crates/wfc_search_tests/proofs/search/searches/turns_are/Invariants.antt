use Rattle.wfc_search_tests.proofs.search.searches.turns_are.Given as goal

-- the ledger is that of the blank
abbrev pub ghosts-two_turns : goal.ghosts-two_turns
ghosts-two_turns g a = record { name = a.blank.name; parts = a.blank.parts }
