use Rattle.wfc_proof.proofs.TellingLemmas.{line_told, line_refused}
use Rattle.wfc_proof.proofs.journals.ProofJournalJournal.line.Goals as goal

pub invariant_of-self : goal.invariant_of-self
invariant_of-self g c = record {
  at = (line_told c.args.self.now.sink.ghost_name (g.S.Sink.seen c.args.self.now.sink.now) (g.S.Sink.seen c.put_counted.new.sink) c.args.self.now.refused c.args.line c.args.self.now.at c.requires.going
      c.put_counted.ensures.format c.in-Ok.ensures.put).0;
}

pub returns-in-Ok-clause-ok : goal.returns-in-Ok-clause-ok
returns-in-Ok-clause-ok g c =
    (line_told c.args.self.now.sink.ghost_name (g.S.Sink.seen c.args.self.now.sink.now) (g.S.Sink.seen c.put_counted.new.sink) c.args.self.now.refused c.args.line c.args.self.now.at c.requires.going
    c.put_counted.ensures.format c.in-Ok.ensures.put).1

pub invariant_of-self-in-Err : goal.invariant_of-self-in-Err
invariant_of-self-in-Err g c = record {
  at = (line_refused c.args.self.now.sink.ghost_name (g.S.Sink.seen c.args.self.now.sink.now) (g.S.Sink.seen c.put_counted.new.sink) c.args.self.now.refused c.args.line c.in-Err.left c.args.self.now.at
      c.requires.going c.put_counted.ensures.format c.in-Err.ensures.put).0;
}

pub returns-in-Err-clause-failed : goal.returns-in-Err-clause-failed
returns-in-Err-clause-failed g c =
    (line_refused c.args.self.now.sink.ghost_name (g.S.Sink.seen c.args.self.now.sink.now) (g.S.Sink.seen c.put_counted.new.sink) c.args.self.now.refused c.args.line c.in-Err.left c.args.self.now.at
    c.requires.going c.put_counted.ensures.format c.in-Err.ensures.put).1
