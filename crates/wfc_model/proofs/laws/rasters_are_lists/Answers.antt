use Rattle.wfc_model.proofs.RasterLemmas.{raster_of-numbers_of, numbers_of-raster_of, IsSized-raster_of, IsFilled-numbers_of}
use Rattle.wfc_model.proofs.laws.rasters_are_lists.Goals as goal

pub returns-clause-picture : goal.returns-clause-picture
returns-clause-picture c m w h sized = raster_of-numbers_of m w h sized

pub returns-clause-full : goal.returns-clause-full
returns-clause-full c m w h sized = IsFilled-numbers_of m w h sized

pub returns-clause-numbers : goal.returns-clause-numbers
returns-clause-numbers c w h numbers many = numbers_of-raster_of w h numbers many

pub returns-clause-sized : goal.returns-clause-sized
returns-clause-sized c w h numbers filled = IsSized-raster_of w h numbers filled
