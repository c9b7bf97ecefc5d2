-- What the crates above cite of pictures, squares, windows, places and what is learned.
pub use Rattle.wfc_model.proofs.DirectionLemmas.{opposite_low, opposite_high, opposite-opposite, opposite_below}
pub use Rattle.wfc_model.proofs.ImageLemmas.{All-square, map-square, length-image, All-image, image-map}
pub use Rattle.wfc_model.proofs.LearnedLemmas.{same_window-Decides, learned-arising, arising-learned, All-arising, at_arising, Contains-arising, Arises, Arises-from}
pub use Rattle.wfc_model.proofs.PlaceLemmas.{All-places, at_place, start_fits, start_from_fit, length-places, places-at, IsCell, cell_is}
pub use Rattle.wfc_model.proofs.RasterLemmas.{height-raster_of, row-raster_of, number_at-raster_of, IsSized-raster_of, made_sized, numbers_of-raster_of, length-joined, length-numbers_of, IsFilled-numbers_of, raster_of-numbers_of, number_at-numbers_of}
pub use Rattle.wfc_model.proofs.RenumberedLemmas.{learned_known, legal_known, number_at-renumbered_picture, window-renumbered_picture, renumbered_picture-raster_of, legal_there, legal_back, legal_found}
pub use Rattle.wfc_model.proofs.SquareLemmas.{length-square, get_or-square, place_in_square, square-at, column_of_place, row_of_place, square-same, square-number, square-from, some_side, row_below, place_below, square_more, square_all, next_row, next_column}
