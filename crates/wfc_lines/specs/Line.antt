-- The forms of a line.
use Rattle.std.specs.Prelude.{ℕ, List, ◌++◌, codes, decimal, Result}
use Rattle.wfc_outside.specs.Sink.{SinkView, Puts}

-- a text as a line of the program
abbrev pub line : List ℕ → List ℕ
line text = codes "wfc: " ++ text ++ codes "\n"

-- a text is said: a stream took the whole of its line, or a front of it and then a fault was counted
abbrev pub IsSaid : {T E : Type 0} → SinkView → SinkView → List ℕ → Result T E → Type 0
IsSaid old new text result = Puts old new (line text) result

-- a text and the name of the file that it speaks of
abbrev pub about : List ℕ → List ℕ → List ℕ
about text file = text ++ codes " file=" ++ file

-- a text, the number straight behind it, and the name of the file that it speaks of
abbrev pub numbered_text : List ℕ → ℕ → List ℕ → List ℕ
numbered_text text n file = about (text ++ decimal n) file

-- a text and a number, a second text and a number, and the name of the file that they speak of
abbrev pub twice_numbered_text : List ℕ → ℕ → List ℕ → ℕ → List ℕ → List ℕ
twice_numbered_text text n between m file = about (text ++ decimal n ++ between ++ decimal m) file
