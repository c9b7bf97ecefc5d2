use Rattle.std.proofs.Common.{◌≡◌, vec_len}
use Rattle.wfc_problem.specs.Domains.{base_with}
use Rattle.wfc_problem.specs.Network.{values}
use Rattle.wfc_problem.proofs.Flags.{Tells}
use Rattle.wfc_problem.proofs.plain.cut_base.Given as goal

abbrev pub invariant-loop-place : goal.invariant-loop-place
invariant-loop-place l = record {
  so_many : vec_len l.flags ≡ l.place;
  told : Tells (values l.problem) (base_with l.problem l.literals) l.flags.items;
}
