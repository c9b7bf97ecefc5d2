use Rattle.std.proofs.Common.{◌*◌, ◌+◌, arith, drop, rules}
use Rattle.wfc_ppm.specs.Fault.{pairs_of}
use Rattle.wfc_ppm.specs.Reading.{colours_of}
use Rattle.wfc_ppm.proofs.PixelLemmas.{pixel_more, wide-next, wide-all}
use Rattle.wfc_ppm.proofs.raw.wide_colours.Goals as goal

pub loop-index-preserved : goal.loop-index-preserved
loop-index-preserved c =
    pixel_more c.loop-index.pixels.items c.push.new.self.items (colours_of (pairs_of c.args.bytes.now)) (colours_of (pairs_of (drop (6 * c.loop-index.index) c.args.bytes.now))) (colours_of (pairs_of (drop (6 * (c.loop-index.index + 1)) c.args.bytes.now))) c.wide_pixel.result c.loop-index.invariant
    (wide-next c.args.bytes.now c.loop-index.index c.wide_pixel.result (omega (arith, c.loop-index-test.true)) c.wide_pixel.ensures.red c.wide_pixel.ensures.green c.wide_pixel.ensures.blue)
    (search rules)

pub returns : goal.returns
returns c = record { pixels = wide-all c.args.bytes.now c.loop-index.index c.loop-index.pixels.items (omega (arith, c.loop-index-test.false)) c.loop-index.invariant }
