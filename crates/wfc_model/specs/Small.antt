-- Small pictures that the laws speak of.
use Rattle.std.specs.Prelude.{ℕ, List, [], ◌∷◌}
use Rattle.wfc_model.specs.Raster.{Raster, raster_of}

-- two rows of two, in which no number has its like beside it: `ab` above `ba`
abbrev pub checkerboard : Raster
checkerboard = raster_of 2 2 (97 ∷ 98 ∷ 98 ∷ 97 ∷ [])

-- its other colouring: `ba` above `ab`
abbrev pub other_checkerboard : Raster
other_checkerboard = raster_of 2 2 (98 ∷ 97 ∷ 97 ∷ 98 ∷ [])

-- two rows of three, all different: 1 2 3 above 4 5 6
abbrev pub six : Raster
six = raster_of 3 2 (1 ∷ 2 ∷ 3 ∷ 4 ∷ 5 ∷ 6 ∷ [])

-- two rows of three: 7 7 8 above 9 7 9
abbrev pub spots : Raster
spots = raster_of 3 2 (7 ∷ 7 ∷ 8 ∷ 9 ∷ 7 ∷ 9 ∷ [])

-- a window of three by three: 1 2 3 above 4 5 6 above 7 8 9
abbrev pub nine : List ℕ
nine = 1 ∷ 2 ∷ 3 ∷ 4 ∷ 5 ∷ 6 ∷ 7 ∷ 8 ∷ 9 ∷ []
