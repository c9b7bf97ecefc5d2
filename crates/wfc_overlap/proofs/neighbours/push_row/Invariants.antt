use Rattle.std.proofs.Common.{◌≡◌, ◌+◌, ◌*◌, ◌++◌, map, vec_len}
use Rattle.std.specs.Prelude.{vec_capacity}
use Rattle.std.specs.List.{flat_map, range_with_len}
use Rattle.wfc_overlap.specs.Layout.{output_of}
use Rattle.wfc_overlap.specs.Sample.{window_beside}
use Rattle.wfc_overlap.proofs.neighbours.push_row.Given as goal

abbrev pub invariant-loop-x : goal.invariant-loop-x
invariant-loop-x l = record {
  items : l.table.items ≡ l.initial.table.items ++ flat_map (λ place. map (λ d. window_beside l.layout.n (output_of l.layout) place d) (range_with_len 0 4)) (map (λ x. (x, l.y)) (range_with_len 0 l.x));
  length : vec_len l.table ≡ vec_len l.initial.table + l.x * 4;
  capacity : vec_capacity l.table ≡ vec_capacity l.initial.table;
}
