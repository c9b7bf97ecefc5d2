-- What is left of the blocks makes all of them, however they are put.
use Rattle.std.proofs.Common.{Result, [], length, take, ◌+◌, ◌≡◌, ◌≤◌}
use Rattle.wfc_map_commands.proofs.walk.Walk.make_each.Given as goal
use Rattle.wfc_map_commands.specs.Walk.{IsWalk, left_text, literals_after_all}
use Rattle.wfc_outside.specs.Sink.{Puts, SinkView}
use Rattle.wfc_outside.specs.declared.SinkFault.{SinkFault}

abbrev pub invariant-loop-line : goal.invariant-loop-line
invariant-loop-line g l = record {
  walks : IsWalk l.self.engine l.self.beside (literals_after_all [] (take l.line-index l.lines));
  problem : l.self.engine.problem ≡ l.initial.self.engine.problem;
  spare : length l.lines ≤ l.self.engine.spare + l.line-index;
  beside : l.self.beside ≤ l.line-index;
  number : l.number ≡ l.line-index;
  rest : (new : SinkView) (result : Result (Unit {0}) SinkFault) → Puts (g.O.Sink.seen l.out) new (left_text l.initial.self.engine.problem l.count l.cells l.lines l.line-index) result
      → Puts (g.O.Sink.seen l.initial.out) new (left_text l.initial.self.engine.problem l.count l.cells l.lines 0) result;
}
