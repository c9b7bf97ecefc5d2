use Rattle.wfc_explain_tests.proofs.explain.asking.explains.Given as goal

-- the ledger is that of the blank
abbrev pub ghosts-counted : goal.ghosts-counted
ghosts-counted g a = record { name = a.blank.name; parts = a.blank.parts }
