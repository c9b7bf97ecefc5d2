use Rattle.wfc_map_commands.proofs.domains_command.domains.Given as goal

-- the ledger is that of the blank
abbrev pub ghosts-put_blocks : goal.ghosts-put_blocks
ghosts-put_blocks g a = record { name = a.blank.name; parts = a.blank.parts }
