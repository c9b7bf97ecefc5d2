use Rattle.std.proofs.Common.{◌≡◌, ◌*◌, ◌++◌, drop}
use Rattle.wfc_ppm.specs.Reading.{colours_of}
use Rattle.wfc_ppm.proofs.raw.narrow_colours.Given as goal

abbrev pub invariant-loop-index : goal.invariant-loop-index
invariant-loop-index l = l.pixels.items ++ colours_of (drop (3 * l.index) l.bytes) ≡ colours_of l.bytes
