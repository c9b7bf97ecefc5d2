use Rattle.wfc_check.proofs.StreamLemmas.{passes_front}
use Rattle.wfc_check.proofs.stream.Stream.pass.Goals as goal

pub returns-clause-passed : goal.returns-clause-passed
returns-clause-passed c =
    passes_front c.args.self.now.name.now c.args.self.now.piece.items c.args.self.now.from c.args.self.now.to c.args.count c.args.self.now.at c.args.self.now.room c.requires.kept c.args.self.now.inside c.requires.room
