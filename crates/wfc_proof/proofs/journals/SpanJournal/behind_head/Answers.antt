use Rattle.wfc_proof.proofs.SpanLemmas.{bare_spans}
use Rattle.wfc_proof.proofs.journals.SpanJournal.behind_head.Goals as goal

pub returns : goal.returns
returns g c = record { begun = (bare_spans c.args.sink.ghost_name (g.S.Sink.seen c.args.sink.now) c.requires.bare).1 }
