use Rattle.std.proofs.Common.{◌≡◌, ◌*◌, ◌-◌, ◌≤◌, ◌++◌, length}
use Rattle.wfc_ppm.specs.Fault.{plain_fault}
use Rattle.wfc_ppm.specs.Reading.{plain_pixels}
use Rattle.wfc_ppm.proofs.plain.plain_pixels.Given as goal

abbrev pub invariant-loop-index : goal.invariant-loop-index
invariant-loop-index l = record {
  pixels : l.pixels.items ++ plain_pixels (l.count - l.index) l.rest ≡ plain_pixels l.count l.text;
  fault : plain_fault l.total l.maxval (l.count * 3) (l.index * 3) (l.count - l.index) l.rest ≡ plain_fault l.total l.maxval (l.count * 3) 0 l.count l.text;
  part : length l.rest ≤ l.total;
}
