use Rattle.std.proofs.Common.{◌≡◌, ◌<◌, ℕ, [], length, get_or}
use Rattle.wfc_model.specs.Direction.{opposite}
use Rattle.wfc_overlap.specs.Sides.{IsGrouped}
use Rattle.wfc_overlap.proofs.supports.groups.Given as goal

abbrev pub invariant-loop-dir : goal.invariant-loop-dir
invariant-loop-dir l = record {
  as_many : length l.groups.items ≡ l.dir;
  each : (d : ℕ) → d < l.dir → IsGrouped l.patterns (opposite d) (get_or l.groups.items d []);
}
