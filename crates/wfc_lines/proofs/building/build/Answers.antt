use Rattle.wfc_lines.proofs.building.build.Goals as goal

pub returns-in-UnknownSymbol : goal.returns-in-UnknownSymbol
returns-in-UnknownSymbol g c = record { told = rw c.in-UnknownSymbol.is c.put_numbered-in-UnknownSymbol.ensures.told }

pub returns-in-TooLarge : goal.returns-in-TooLarge
returns-in-TooLarge g c = record { told = rw c.in-TooLarge.is c.count.ensures.told }
