use Rattle.wfc_proof.proofs.TellingLemmas.{bare_begun}
use Rattle.wfc_proof.proofs.journals.ProofJournal.behind_head.Goals as goal

pub returns : goal.returns
returns g c = record { begun = bare_begun c.args.sink.ghost_name (g.S.Sink.seen c.args.sink.now) c.requires.bare }
