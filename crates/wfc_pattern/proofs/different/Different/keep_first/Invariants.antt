use Rattle.std.proofs.Common.{◌≡◌, ◌≤◌, length, nat_eq}
use Rattle.std.specs.List.{range_with_len}
use Rattle.std.specs.Cmp.Lexicographic.{pointwise}
use Rattle.wfc_lists.specs.WithoutRepeats.{without_repeats}
use Rattle.wfc_pattern.specs.Chains.{hashes_of}
use Rattle.wfc_pattern.specs.Different.{images_of, HashesAre}
use Rattle.wfc_pattern.proofs.different.Different.keep_first.Given as goal

abbrev pub invariant-loop-at : goal.invariant-loop-at
invariant-loop-at l = record {
  few : length l.self.numbers.items ≤ l.at;
  hashes : HashesAre l.arising.picture.now l.arising.n l.arising.symmetry l.arising.columns l.self.numbers.items (hashes_of l.self.chains.links.items);
  kept : images_of l.arising.picture.now l.arising.n l.arising.symmetry l.arising.columns l.self.numbers.items
      ≡ without_repeats (pointwise nat_eq) (images_of l.arising.picture.now l.arising.n l.arising.symmetry l.arising.columns (range_with_len 0 l.at));
}
