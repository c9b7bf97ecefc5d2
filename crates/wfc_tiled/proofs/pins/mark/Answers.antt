use Rattle.std.proofs.Common.{sym, arith}
use Rattle.wfc_places.specs.Steps.{place_number}
use Rattle.wfc_tiled.proofs.MaskLemmas.{there}
use Rattle.wfc_tiled.proofs.pins.mark.Goals as goal

pub returns-in-Some-find-clause-placed : goal.returns-in-Some-find-clause-placed
returns-in-Some-find-clause-placed c = record {
  column_in = omega (arith, c.if-line-width.false, c.width.ensures.value);
  row_in = omega (arith, c.if-line-height.false, c.height.ensures.value);
  place = there c.args.mask.now.places (place_number c.args.mask.now.width c.line.inside.x c.line.inside.y) _ (sym c.in-Some.ensures.value);
}
