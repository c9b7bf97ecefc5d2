use Rattle.std.proofs.Common.{◌≡◌, ◌*◌, vec_len}
use Rattle.wfc_problem.specs.Domains.{base_with}
use Rattle.wfc_problem.specs.Network.{values, has_flag}
use Rattle.wfc_problem.specs.Rounds.{rounds}
use Rattle.wfc_problem.proofs.plain.greatest_domains.Given as goal

abbrev pub invariant-loop-done : goal.invariant-loop-done
invariant-loop-done l = record {
  whole : vec_len l.flags ≡ l.problem.cells * values l.problem;
  told : has_flag (values l.problem) l.flags.items ≡ rounds l.problem (base_with l.problem l.literals) l.done;
}
