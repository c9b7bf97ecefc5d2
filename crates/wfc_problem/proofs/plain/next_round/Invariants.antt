use Rattle.std.proofs.Common.{◌≡◌, vec_len}
use Rattle.wfc_problem.specs.Network.{values, has_flag}
use Rattle.wfc_problem.specs.Rounds.{round}
use Rattle.wfc_problem.proofs.Flags.{Tells}
use Rattle.wfc_problem.proofs.plain.next_round.Given as goal

abbrev pub invariant-loop-place : goal.invariant-loop-place
invariant-loop-place l = record {
  so_many : vec_len l.next ≡ l.place;
  told : Tells (values l.problem) (round l.problem (has_flag (values l.problem) l.flags)) l.next.items;
}
