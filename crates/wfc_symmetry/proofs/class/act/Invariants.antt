use Rattle.std.proofs.Common.{◌≡◌, ◌<◌}
use Rattle.wfc_symmetry.specs.Class.{turned_by, variant_count}
use Rattle.wfc_symmetry.proofs.class.act.Given as goal

abbrev pub invariant-loop-turn : goal.invariant-loop-turn
invariant-loop-turn l = record {
  turned : l.turned ≡ turned_by l.class l.variant l._turn;
  variant_in : l.turned < variant_count l.class;
}
