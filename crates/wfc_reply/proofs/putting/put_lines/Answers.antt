use Rattle.std.proofs.Common.{ap}
use Rattle.wfc_reply.proofs.JournalLemmas.{lines_answered, lines_failed}
use Rattle.wfc_reply.proofs.putting.put_lines.Goals as goal

pub returns-clause-put : goal.returns-clause-put
returns-clause-put g c =
    lines_answered _ _ _ _ _ _ _ c.run.new.journal.refused _ c.run.result c.requires.ready c.run.new.journal.at (λ e. ap g.O.Sink.seen (c.out-1.given.1 e)) c.behind_head-journal.ensures.begun c.run.ensures.told

pub returns-clause-cut : goal.returns-clause-cut
returns-clause-cut g c =
    lines_failed _ _ _ _ _ _ _ c.run.new.journal.refused _ c.run.result c.requires.ready c.run.new.journal.at (λ e. ap g.O.Sink.seen (c.out-1.given.1 e)) c.behind_head-journal.ensures.begun c.run.ensures.failed
