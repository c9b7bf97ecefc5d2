use Rattle.std.proofs.Common.{◌≡◌, ◌++◌, drop, flat_map}
use Rattle.wfc_ppm.specs.Ppm.{pixel_line}
use Rattle.wfc_ppm.proofs.writing.push_plain.Given as goal

abbrev pub invariant-loop-pixel : goal.invariant-loop-pixel
invariant-loop-pixel l = l.text.items ++ flat_map pixel_line (drop l.pixel-index l.pixels) ≡ l.initial.text.items ++ flat_map pixel_line l.pixels
