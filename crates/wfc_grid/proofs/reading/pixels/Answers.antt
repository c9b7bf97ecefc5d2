use Rattle.std.proofs.Common.{arith}
use Rattle.wfc_grid.proofs.SpellingLemmas.{line-shorter}
use Rattle.wfc_grid.proofs.reading.pixels.Goals as goal

pub check-requires : goal.check-requires
check-requires c = omega (arith, line-shorter _ _ _ _ c.args.text.now c.loop-line.invariant.whole c.in-Some.ensures.steps)
