use Rattle.std.proofs.Common.{sym, ◌∙◌}
use Rattle.wfc_proof.specs.Spans.{IsSpanning}
use Rattle.wfc_proof.proofs.SpanLemmas.{span_joined, span_apart, span_cut}
use Rattle.wfc_proof.proofs.journals.SpanJournalJournal.line.Goals as goal

pub invariant_of-self : goal.invariant_of-self
invariant_of-self g c =
    let j = c.args.self.now in
    let was : IsSpanning (g.S.Sink.seen j.sink.now) j.kept j.refused = record { at = j.at; joined = j.joined; spans = j.spans } in
    let all = span_joined j.sink.ghost_name (g.S.Sink.seen j.sink.now) j.kept j.refused c.as_span-told.result c.args.line c.in-Some.span (c.as_span-told.ensures.whole c.requires.whole) c.as_span-told.ensures.span
    c.as_span-told.ensures.counts was c.requires.going (sym c.join_with.ensures.value ∙ c.in-Some.is) in
    record { at = all.0.at; joined = all.0.joined; spans = all.0.spans }

pub returns-in-Some-clause-ok : goal.returns-in-Some-clause-ok
returns-in-Some-clause-ok g c =
    let j = c.args.self.now in
    let was : IsSpanning (g.S.Sink.seen j.sink.now) j.kept j.refused = record { at = j.at; joined = j.joined; spans = j.spans } in
    let all = span_joined j.sink.ghost_name (g.S.Sink.seen j.sink.now) j.kept j.refused c.as_span-told.result c.args.line c.in-Some.span (c.as_span-told.ensures.whole c.requires.whole) c.as_span-told.ensures.span
    c.as_span-told.ensures.counts was c.requires.going (sym c.join_with.ensures.value ∙ c.in-Some.is) in
    all.1

pub invariant_of-self-in-Ok : goal.invariant_of-self-in-Ok
invariant_of-self-in-Ok g c =
    let j = c.args.self.now in
    let was : IsSpanning (g.S.Sink.seen j.sink.now) j.kept j.refused = record { at = j.at; joined = j.joined; spans = j.spans } in
    let all = span_apart j.sink.ghost_name (g.S.Sink.seen j.sink.now) (g.S.Sink.seen c.put_apart.new.sink) j.kept j.refused c.in-Ok.kept c.as_span-told.result c.args.line
    (c.as_span-told.ensures.whole c.requires.whole) c.as_span-told.ensures.span c.as_span-told.ensures.counts was c.requires.going (sym c.join_with.ensures.value ∙ c.in_default.is) c.in-Ok.ensures.ok in
    record { at = all.0.at; joined = all.0.joined; spans = all.0.spans }

pub returns-in-Ok-clause-ok : goal.returns-in-Ok-clause-ok
returns-in-Ok-clause-ok g c =
    let j = c.args.self.now in
    let was : IsSpanning (g.S.Sink.seen j.sink.now) j.kept j.refused = record { at = j.at; joined = j.joined; spans = j.spans } in
    let all = span_apart j.sink.ghost_name (g.S.Sink.seen j.sink.now) (g.S.Sink.seen c.put_apart.new.sink) j.kept j.refused c.in-Ok.kept c.as_span-told.result c.args.line
    (c.as_span-told.ensures.whole c.requires.whole) c.as_span-told.ensures.span c.as_span-told.ensures.counts was c.requires.going (sym c.join_with.ensures.value ∙ c.in_default.is) c.in-Ok.ensures.ok in
    all.1

pub invariant_of-self-in-Err : goal.invariant_of-self-in-Err
invariant_of-self-in-Err g c =
    let j = c.args.self.now in
    let was : IsSpanning (g.S.Sink.seen j.sink.now) j.kept j.refused = record { at = j.at; joined = j.joined; spans = j.spans } in
    let all = span_cut j.sink.ghost_name (g.S.Sink.seen j.sink.now) (g.S.Sink.seen c.put_apart.new.sink) j.kept j.refused c.in-Err.cut.kept c.as_span-told.result c.args.line
    (c.as_span-told.ensures.whole c.requires.whole) c.as_span-told.ensures.span c.as_span-told.ensures.counts was c.requires.going (sym c.join_with.ensures.value ∙ c.in_default.is) c.in-Err.ensures.failed in
    record { at = all.0.at; joined = all.0.joined; spans = all.0.spans }

pub returns-in-Err-clause-failed : goal.returns-in-Err-clause-failed
returns-in-Err-clause-failed g c =
    let j = c.args.self.now in
    let was : IsSpanning (g.S.Sink.seen j.sink.now) j.kept j.refused = record { at = j.at; joined = j.joined; spans = j.spans } in
    let all = span_cut j.sink.ghost_name (g.S.Sink.seen j.sink.now) (g.S.Sink.seen c.put_apart.new.sink) j.kept j.refused c.in-Err.cut.kept c.as_span-told.result c.args.line
    (c.as_span-told.ensures.whole c.requires.whole) c.as_span-told.ensures.span c.as_span-told.ensures.counts was c.requires.going (sym c.join_with.ensures.value ∙ c.in_default.is) c.in-Err.ensures.failed in
    all.1
