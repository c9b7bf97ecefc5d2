-- What callers cite: what plans of a problem come to where the files are told, its first faults, its legal maps, and which
-- requests pose one.
pub use Rattle.wfc_task.proofs.GivenLemmas.{given_problem, given_sample, problem_given, sample_given, sample_lesson}
pub use Rattle.wfc_task.proofs.LayoutLemmas.{IsLaidOut, each_joined, laid_out}
pub use Rattle.wfc_task.proofs.LearnedLemmas.{IsByRequest, goes_by_request, sample_by_request, shown_palette}
pub use Rattle.wfc_task.proofs.MapLemmas.{IsBridged, TakesSides, bridged, command_bridged, flat_problem, no_legal, no_map_of, pins_inside, set_is}
pub use Rattle.wfc_task.proofs.PictureLemmas.{all_taken, follows_parts, tiles_pictured}
pub use Rattle.wfc_task.proofs.PosedLemmas.{given_posed, posed_given}
pub use Rattle.wfc_task.proofs.PosedOrderLemmas.{faults_posed, same_posed}
pub use Rattle.wfc_task.proofs.ProblemOrderLemmas.{faults_count, faults_problem, problem_stages}
pub use Rattle.wfc_task.proofs.RequestLemmas.{command_output, command_source, output_asked, source_asked}
pub use Rattle.wfc_task.proofs.SampleOrderLemmas.{faults_layout, faults_sample, sample_stages}
pub use Rattle.wfc_task.proofs.TileGivenLemmas.{given_pictures, given_tiled, given_tiles, pictures_given, tiled_given, tiles_given}
pub use Rattle.wfc_task.proofs.TileOrderLemmas.{faults_pictures, faults_tile_layout, faults_tiled, faults_tiles, tiled_stages, tiles_stages}
