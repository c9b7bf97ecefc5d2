use Rattle.std.proofs.Common.{◌≡◌, ◌+◌, take}
use Rattle.wfc_log.specs.declared.Verdict.TheVariants.{Alive}
use Rattle.wfc_domains.specs.Swept.{IsClosed}
use Rattle.wfc_domains.proofs.plain.put_all.Given as goal

abbrev pub invariant-loop-literal : goal.invariant-loop-literal
invariant-loop-literal l = record {
  closed : IsClosed l.board;
  alive : l.board.verdict ≡ Alive;
  problem : l.board.problem ≡ l.fn.board.problem;
  standing : l.board.levels.standing ≡ take l.literal-index l.literals;
  spare : l.board.levels.spare + l.literal-index ≡ l.fn.board.levels.spare;
}
