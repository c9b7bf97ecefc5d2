use Rattle.wfc_box_commands.proofs.refute_command.box_refute.Given as goal

-- the ledger is that of the blank
abbrev pub ghosts-put_run : goal.ghosts-put_run
ghosts-put_run g a = record { name = a.blank.name; parts = a.blank.parts }
