use Rattle.std.proofs.Common.{◌≡◌, ◌≤◌, [], length, fold}
use Rattle.std.specs.List.{flat_map, range_with_len}
use Rattle.wfc_pattern.specs.Arising.{images_in_row}
use Rattle.wfc_pattern.specs.declared.TheConstants.{MAX_PATTERNS}
use Rattle.wfc_pattern.specs.Tally.{recount}
use Rattle.wfc_pattern.proofs.learning.tally_of.Given as goal

abbrev pub invariant-loop-y : goal.invariant-loop-y
invariant-loop-y l = record {
  n : l.learner.n ≡ l.n;
  symmetry : l.learner.symmetry ≡ l.symmetry;
  few : length l.learner.tally ≤ MAX_PATTERNS;
  noted : l.learner.tally ≡ fold recount [] (flat_map (images_in_row l.picture l.n l.symmetry l.columns) (range_with_len 0 l.y));
}
