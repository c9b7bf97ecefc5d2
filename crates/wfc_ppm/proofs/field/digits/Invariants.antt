use Rattle.std.proofs.Common.{◌≡◌, ℕ, ◌<◌, false, take, get_or}
use Rattle.wfc_text.specs.Number.{is_other}
use Rattle.wfc_ppm.specs.Field.{value_of}
use Rattle.wfc_ppm.proofs.field.digits.Given as goal

abbrev pub invariant-loop-at : goal.invariant-loop-at
invariant-loop-at l = record { before : (k : ℕ) → k < l.at → is_other (get_or l.text k 0) ≡ false; value : l.n ≡ value_of (take l.at l.text) }
