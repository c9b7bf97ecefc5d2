use Rattle.wfc_ac4.proofs.Ac4.open.Given as goal

-- the ledger is that of the blank
abbrev pub ghosts-open_counted : goal.ghosts-open_counted
ghosts-open_counted a = record { name = a.blank.name; parts = a.blank.parts }
