-- What a sink is after a journal over it was told lines.
use Rattle.std.specs.Prelude.{◌≡◌, List, Option}
use Rattle.std.specs.Borrow.{GName}
use Rattle.wfc_outside.specs.Sink.{SinkView}
use Rattle.wfc_proof.specs.Journal.{JournalView, after_lines, IsCutOff}
use Rattle.wfc_proof.specs.Spans.{IsSpanning, spans_of}
use Rattle.wfc_proof.specs.Telling.{IsAt, journal_of, new_journal, refused_lines}
use Rattle.wfc_proof.specs.declared.Line.{Line}
use Rattle.wfc_proof.specs.declared.heads.Format.{Format}
use Rattle.wfc_proof.specs.declared.heads.Format.TheVariants.{One, Two}

-- a journal of the format over this sink is seen so, under some name and with whatever it keeps
abbrev pub IsSeenAs : Format → SinkView → (GName → JournalView → Type 0) → Type 0
IsSeenAs One sink is =
    (name : GName) × (refused : Option Line) × IsAt One sink.told (refused_lines refused)
    × is name (journal_of name sink refused)
IsSeenAs Two sink is =
    (name : GName) × (kept : Option Line) × (refused : Option Line) × IsSpanning sink kept refused
    × is name (spans_of name sink kept refused)

-- a journal of the format that began over the sink when it was the first was told these lines by now, where it is the second
abbrev pub IsAfterTelling : Format → SinkView → SinkView → List Line → Type 0
IsAfterTelling format started sink lines =
    IsSeenAs format sink (λ name journal. journal ≡ after_lines (new_journal name started) lines)

-- such a journal was cut off within these lines
abbrev pub IsAfterRefusal : Format → SinkView → SinkView → List Line → Type 0
IsAfterRefusal format started sink lines =
    IsSeenAs format sink (λ name journal. IsCutOff (new_journal name started) journal lines)
