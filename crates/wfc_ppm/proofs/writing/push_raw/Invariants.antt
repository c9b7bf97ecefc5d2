use Rattle.std.proofs.Common.{◌≡◌, ◌++◌, drop}
use Rattle.wfc_ppm.specs.Ppm.{raw_bytes}
use Rattle.wfc_ppm.proofs.writing.push_raw.Given as goal

abbrev pub invariant-loop-pixel : goal.invariant-loop-pixel
invariant-loop-pixel l = l.text.items ++ raw_bytes l.maxval (drop l.pixel-index l.pixels) ≡ l.initial.text.items ++ raw_bytes l.maxval l.pixels
