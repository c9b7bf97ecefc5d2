use Rattle.wfc_blocks_tests.proofs.blocks.asking.grown.Given as goal

-- the ledger is that of the blank
abbrev pub ghosts-counted : goal.ghosts-counted
ghosts-counted g a = record { name = a.blank.name; parts = a.blank.parts }
