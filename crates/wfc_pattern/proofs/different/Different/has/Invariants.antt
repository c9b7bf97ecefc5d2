use Rattle.std.proofs.Common.{suc}
use Rattle.std.specs.Option.{option_map_or}
use Rattle.wfc_pattern.specs.Chains.{hashes_of}
use Rattle.wfc_pattern.proofs.DifferentLemmas.{IsSearched}
use Rattle.wfc_pattern.proofs.different.Different.has.Given as goal

abbrev pub invariant-loop-next : goal.invariant-loop-next
invariant-loop-next l = IsSearched l.arising.picture.now l.arising.n l.arising.symmetry l.arising.columns l.self.numbers.items (hashes_of l.self.chains.links.items) l.image l.hash l.next

abbrev pub decreases-loop-next : goal.decreases-loop-next
decreases-loop-next l = option_map_or suc l.next 0
