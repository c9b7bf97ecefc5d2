use Rattle.wfc_search_tests.proofs.runs.rings_have_no_map.Given as goal

-- the ledger is that of the blank
abbrev pub ghosts-ends_so : goal.ghosts-ends_so
ghosts-ends_so g a = record { name = a.blank.name; parts = a.blank.parts }
