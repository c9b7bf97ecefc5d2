use Rattle.std.proofs.Common.{◌≡◌, ◌*◌, ◌++◌, drop}
use Rattle.wfc_ppm.specs.Fault.{pairs_of}
use Rattle.wfc_ppm.specs.Reading.{colours_of}
use Rattle.wfc_ppm.proofs.raw.wide_colours.Given as goal

abbrev pub invariant-loop-index : goal.invariant-loop-index
invariant-loop-index l = l.pixels.items ++ colours_of (pairs_of (drop (6 * l.index) l.bytes)) ≡ colours_of (pairs_of l.bytes)
