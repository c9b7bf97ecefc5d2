use Rattle.wfc_picture.proofs.PictureLemmas.{raster_seen}
use Rattle.wfc_picture.proofs.picture.Picture.width.Goals as goal

pub returns-clause-raster : goal.returns-clause-raster
returns-clause-raster c = raster_seen _ _ _ _ c.self.view_is c.self.invariant
