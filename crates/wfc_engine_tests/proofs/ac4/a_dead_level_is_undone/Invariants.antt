use Rattle.wfc_engine_tests.proofs.ac4.a_dead_level_is_undone.Given as goal

-- the ledger is that of the blank
abbrev pub ghosts-undoes_the_rings : goal.ghosts-undoes_the_rings
ghosts-undoes_the_rings g a = record { name = a.blank.name; parts = a.blank.parts }
