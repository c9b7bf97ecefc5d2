use Rattle.wfc_lines.proofs.tile_sets.tiles.Goals as goal

pub returns-in-SizeDiffers : goal.returns-in-SizeDiffers
returns-in-SizeDiffers g c = record { told = rw c.in-SizeDiffers.is c.put_numbered-in-SizeDiffers.ensures.told }

pub returns-in-UnknownTile : goal.returns-in-UnknownTile
returns-in-UnknownTile g c = record { told = rw c.in-UnknownTile.is c.put_numbered-in-UnknownTile.ensures.told }

pub returns-in-BadTurn : goal.returns-in-BadTurn
returns-in-BadTurn g c = record { told = rw c.in-BadTurn.is c.put_numbered-in-BadTurn.ensures.told }

pub returns-in-TooManyVariants : goal.returns-in-TooManyVariants
returns-in-TooManyVariants g c = record { told = rw c.in-TooManyVariants.is c.put_numbered-in-TooManyVariants.ensures.told }

pub returns-in-MixedKinds : goal.returns-in-MixedKinds
returns-in-MixedKinds g c = record { told = rw c.in-MixedKinds.is c.put_numbered-in-MixedKinds.ensures.told }
