-- What is left of the words of a line.
use Rattle.std.specs.Prelude.{ℕ, List, [], Option, None, Some}
use Rattle.std.specs.Borrow.{Bor}
use Rattle.wfc_proof.specs.Words.{spaced_words}

-- the words of what stands behind the last blank that was passed, and none at the end
abbrev pub words_left : Option (Bor (List ℕ)) → List (List ℕ)
words_left None = []
words_left (Some rest) = spaced_words rest.now
