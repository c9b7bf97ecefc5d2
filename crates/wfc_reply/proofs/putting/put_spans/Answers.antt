use Rattle.std.proofs.Common.{ap}
use Rattle.wfc_reply.proofs.JournalLemmas.{spans_answered, spans_failed}
use Rattle.wfc_reply.proofs.putting.put_spans.Goals as goal

pub returns-clause-put : goal.returns-clause-put
returns-clause-put g c =
    let j = c.run.new.journal in
    spans_answered _ _ _ _ _ _ _ _ _ _ c.run.result c.requires.ready (record { at = j.at; joined = j.joined; spans = j.spans }) (λ e. ap g.O.Sink.seen (c.out-1.given.1 e)) c.behind_head-journal.ensures.begun
    c.run.ensures.told

pub returns-clause-cut : goal.returns-clause-cut
returns-clause-cut g c =
    let j = c.run.new.journal in
    spans_failed _ _ _ _ _ _ _ _ _ _ c.run.result c.requires.ready (record { at = j.at; joined = j.joined; spans = j.spans }) (λ e. ap g.O.Sink.seen (c.out-1.given.1 e)) c.behind_head-journal.ensures.begun
    c.run.ensures.failed
