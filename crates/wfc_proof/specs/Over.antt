-- Journals over sinks, as contracts see them.
use Rattle.wfc_outside.specs.declared.Sink as sink
use Rattle.wfc_proof.specs.Journal.{JournalView}
use Rattle.wfc_proof.specs.Spans.{spans_of}
use Rattle.wfc_proof.specs.Telling.{journal_of}
use Rattle.wfc_proof.specs.declared.journals.ProofJournal.{ProofJournal}
use Rattle.wfc_proof.specs.declared.journals.SpanJournal.{SpanJournal}

-- a journal of format 1, told how its sink is seen
abbrev pub told_by : {S : Type 0} → (g : sink.Ghosts S) → ProofJournal S g → JournalView
told_by g journal = journal_of journal.sink.ghost_name (g.seen journal.sink.now) journal.refused

-- a journal of format 2, told how its sink is seen
abbrev pub spans_told_by : {S : Type 0} → (g : sink.Ghosts S) → SpanJournal S g → JournalView
spans_told_by g journal = spans_of journal.sink.ghost_name (g.seen journal.sink.now) journal.kept journal.refused
