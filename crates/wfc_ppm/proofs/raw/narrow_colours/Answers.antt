use Rattle.std.proofs.Common.{◌*◌, ◌+◌, arith, drop, rules}
use Rattle.wfc_ppm.specs.Reading.{colours_of}
use Rattle.wfc_ppm.proofs.PixelLemmas.{pixel_more, narrow-next, narrow-all}
use Rattle.wfc_ppm.proofs.raw.narrow_colours.Goals as goal

pub loop-index-preserved : goal.loop-index-preserved
loop-index-preserved c =
    pixel_more c.loop-index.pixels.items c.push.new.self.items (colours_of c.args.bytes.now) (colours_of (drop (3 * c.loop-index.index) c.args.bytes.now)) (colours_of (drop (3 * (c.loop-index.index + 1)) c.args.bytes.now)) c.narrow_pixel.result c.loop-index.invariant
    (narrow-next c.args.bytes.now c.loop-index.index c.narrow_pixel.result (omega (arith, c.loop-index-test.true)) c.narrow_pixel.ensures.red c.narrow_pixel.ensures.green c.narrow_pixel.ensures.blue)
    (search rules)

pub returns : goal.returns
returns c = record { pixels = narrow-all c.args.bytes.now c.loop-index.index c.loop-index.pixels.items (omega (arith, c.loop-index-test.false)) c.loop-index.invariant }
