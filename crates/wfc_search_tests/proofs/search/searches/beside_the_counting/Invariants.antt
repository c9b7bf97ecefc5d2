use Rattle.wfc_search_tests.proofs.search.searches.beside_the_counting.Given as goal

-- the ledger is that of the blank
abbrev pub ghosts-ends_agree : goal.ghosts-ends_agree
ghosts-ends_agree g a = record { name = a.blank.name; parts = a.blank.parts }
