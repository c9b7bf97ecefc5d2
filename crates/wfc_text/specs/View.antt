-- What a line in the code is seen as.
use Rattle.wfc_text.specs.declared.line.TextLine.{TextLine}
use Rattle.wfc_text.specs.Line.{LineView}

-- a line as the definitions see it
abbrev pub line_view : TextLine → LineView
line_view line = record { number = line.number; bytes = line.bytes.now; ended = line.ended }
