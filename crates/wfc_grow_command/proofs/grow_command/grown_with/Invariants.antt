use Rattle.wfc_grow_command.proofs.grow_command.grown_with.Given as goal

-- the ledger is that of the blank
abbrev pub ghosts-growing_end : goal.ghosts-growing_end
ghosts-growing_end g a = record { name = a.blank.name; parts = a.blank.parts }
