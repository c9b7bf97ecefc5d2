use Rattle.std.proofs.Common.{arith}
use Rattle.wfc_ppm.proofs.PixelLemmas.{pair-here, pair-more, pairs-none}
use Rattle.wfc_ppm.proofs.raw.first_pair_above.Goals as goal

pub returns-then-maxval-from-clause-first : goal.returns-then-maxval-from-clause-first
returns-then-maxval-from-clause-first c = pair-here c.args.bytes.now c.args.maxval c.loop-index.index c.from.result (omega (arith, c.loop-index-test.true)) (omega (arith, c.pair.ensures.sample, c.from.ensures)) c.if-maxval-from.true c.loop-index.invariant

pub loop-index-preserved : goal.loop-index-preserved
loop-index-preserved c = pair-more c.args.bytes.now c.args.maxval c.loop-index.index c.from.result (omega (arith, c.loop-index-test.true)) (omega (arith, c.pair.ensures.sample, c.from.ensures)) c.if-maxval-from.false c.loop-index.invariant

pub returns-clause-first : goal.returns-clause-first
returns-clause-first c = pairs-none c.args.bytes.now c.args.maxval c.loop-index.index (omega (arith, c.loop-index-test.false)) c.loop-index.invariant
