use Rattle.std.proofs.Common.{sym, ◌∙◌}
use Rattle.std.proofs.lemmas.Bool.{false≢true}
use Rattle.wfc_map_commands.proofs.WalkLemmas.{root_alive, root_dead}
use Rattle.wfc_map_commands.proofs.walk.Walk.verdict.Goals as goal

pub returns-then-is_alive : goal.returns-then-is_alive
returns-then-is_alive c = record {
  value = λ walk. let both = c.is_alive.ensures.alive.0 c.if-is_alive.true in root_alive c.args.self.now.engine c.args.self.now.beside walk both.0 both.1;
}

pub returns-else-is_alive : goal.returns-else-is_alive
returns-else-is_alive c = record {
  value = λ walk. root_dead c.args.self.now.engine c.args.self.now.beside walk (λ none alive. false≢true (sym c.if-is_alive.false ∙ c.is_alive.ensures.alive.1 (none, alive)));
}
