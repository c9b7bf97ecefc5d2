use Rattle.std.proofs.Common.{◌≡◌, ◌*◌, ◌≤◌, map, vec_len}
use Rattle.std.specs.Prelude.{vec_capacity}
use Rattle.std.specs.List.{flat_map, range_with_len}
use Rattle.wfc_overlap.specs.Layout.{output_of}
use Rattle.wfc_overlap.specs.Sample.{window_beside}
use Rattle.wfc_overlap.proofs.neighbours.neighbours.Given as goal

abbrev pub invariant-loop-y : goal.invariant-loop-y
invariant-loop-y l = record {
  items : l.table.items ≡ flat_map (λ place. map (λ d. window_beside l.layout.n (output_of l.layout) place d) (range_with_len 0 4)) (flat_map (λ y. map (λ x. (x, y)) (range_with_len 0 l.layout.columns)) (range_with_len 0 l.y));
  length : vec_len l.table ≡ l.y * l.layout.columns * 4;
  room : l.layout.rows * l.layout.columns * 4 ≤ vec_capacity l.table;
}
