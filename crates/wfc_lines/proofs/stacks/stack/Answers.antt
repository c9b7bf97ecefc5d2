use Rattle.wfc_lines.proofs.stacks.stack.Goals as goal

pub returns-in-UnknownTile : goal.returns-in-UnknownTile
returns-in-UnknownTile g c = record { told = rw c.in-UnknownTile.is c.put_numbered-in-UnknownTile.ensures.told }

pub returns-in-BadTurn : goal.returns-in-BadTurn
returns-in-BadTurn g c = record { told = rw c.in-BadTurn.is c.put_numbered-in-BadTurn.ensures.told }
