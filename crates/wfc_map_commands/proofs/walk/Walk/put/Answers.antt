use Rattle.std.proofs.Common.{subst, sym, ◌∙◌}
use Rattle.std.proofs.lemmas.Bool.{false≢true}
use Rattle.wfc_log.specs.Domains.{has}
use Rattle.wfc_map_commands.proofs.WalkLemmas.{shown_alive, shown_dead}
use Rattle.wfc_map_commands.proofs.walk.Walk.put.Goals as goal
use Rattle.wfc_outside.specs.Sink.{Puts}
use Rattle.wfc_render.specs.Block.{block_text}

pub returns-then-is_alive : goal.returns-then-is_alive
returns-then-is_alive g c = record {
  put = λ standing walk.
      let both = c.is_alive.ensures.alive.0 c.if-is_alive.true in
      subst (λ s. Puts (g.O.Sink.seen c.args.out.now) (g.O.Sink.seen c.write_block.new.sink) (block_text c.args.number s c.args.count c.args.cells) c.write_block.result)
      (sym (shown_alive c.args.self.now.engine c.args.self.now.beside standing (has c.domains.result.now) walk both.0 both.1 c.domains.ensures.stands)) c.write_block.ensures.put;
}

pub returns-else-is_alive : goal.returns-else-is_alive
returns-else-is_alive g c = record {
  put = λ standing walk.
      subst (λ s. Puts (g.O.Sink.seen c.args.out.now) (g.O.Sink.seen c.write_block-else-is_alive.new.sink) (block_text c.args.number s c.args.count c.args.cells) c.write_block-else-is_alive.result)
      (sym (shown_dead c.args.self.now.engine c.args.self.now.beside standing walk (λ none alive. false≢true (sym c.if-is_alive.false ∙ c.is_alive.ensures.alive.1 (none, alive))))) c.write_block-else-is_alive.ensures.put;
}
