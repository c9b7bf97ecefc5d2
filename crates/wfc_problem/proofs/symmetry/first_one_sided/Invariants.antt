use Rattle.std.proofs.Common.{◌≡◌}
use Rattle.wfc_problem.specs.Fault.{is_mutual}
use Rattle.wfc_problem.specs.Symmetry.{IsEarliest}
use Rattle.wfc_problem.specs.Network.{values}
use Rattle.wfc_problem.proofs.Firsts.{end_of}
use Rattle.wfc_problem.proofs.symmetry.first_one_sided.Given as goal

abbrev pub invariant-loop-dir : goal.invariant-loop-dir
invariant-loop-dir l = record {
  ends : l.end ≡ end_of (values l.parts) l.first;
  earliest : IsEarliest (is_mutual l.parts) (values l.parts) l.dir l.first;
}
