use Rattle.wfc_map_commands.proofs.WalkLemmas.{undone_beside}
use Rattle.wfc_map_commands.proofs.walk.Walk.undo.Goals as goal

pub returns-then-self-gt0-clause-walks : goal.returns-then-self-gt0-clause-walks
returns-then-self-gt0-clause-walks g c = undone_beside c.args.self.now.engine c.args.self.now.beside c.if-self-gt0.true
