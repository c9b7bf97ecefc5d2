use Rattle.wfc_picture.proofs.PictureLemmas.{height_seen, raster_seen}
use Rattle.wfc_picture.proofs.picture.Picture.height.Goals as goal

pub returns-clause-value : goal.returns-clause-value
returns-clause-value c = height_seen _ _ _ _ c.self.view_is

pub returns-clause-raster : goal.returns-clause-raster
returns-clause-raster c = raster_seen _ _ _ _ c.self.view_is c.self.invariant
