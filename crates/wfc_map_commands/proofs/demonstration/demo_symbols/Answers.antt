use Rattle.wfc_map_commands.proofs.DemonstrationLemmas.{symbols_more}
use Rattle.wfc_map_commands.proofs.demonstration.demo_symbols.Goals as goal

pub loop-k-preserved : goal.loop-k-preserved
loop-k-preserved c = symbols_more c.args.number c.args.side c.loop-k.k c.loop-k.symbols.items _ c.demo_symbol.result c.loop-k.invariant c.in_ok-push.ensures.items c.demo_symbol.ensures.value
