use Rattle.wfc_grow_command.proofs.stuck_block.put_stuck.Given as goal

-- the ledger is that of the blank
abbrev pub ghosts-put_run_behind : goal.ghosts-put_run_behind
ghosts-put_run_behind g a = record { name = a.blank.name; parts = a.blank.parts }
