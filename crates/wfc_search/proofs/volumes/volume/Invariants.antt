use Rattle.std.proofs.Common.{◌≡◌, ◌+◌, map}
use Rattle.std.specs.Prelude.{min}
use Rattle.std.specs.List.{range_with_len}
use Rattle.wfc_log.specs.Domains.{has}
use Rattle.wfc_problem.specs.Sizes.{size_at}
use Rattle.wfc_search.specs.Volume.{product}
use Rattle.wfc_search.proofs.volumes.volume.Given as goal

-- the product of the sizes of the cells before this one, or one more than the limit where it is greater
abbrev pub invariant-loop-cell : goal.invariant-loop-cell
invariant-loop-cell l = record {
  limit : l.limit ≡ 1000000000;
  product : l.product ≡ min (product (map (size_at l.problem (has l.domains)) (range_with_len 0 l.cell))) (l.limit + 1);
}
