use Rattle.std.proofs.Common.{◌∙◌, sym, arith}
use Rattle.std.specs.declared.vec.Vec.{Vec}
use Rattle.std.specs.declared.alloc.Global.{Global}
use Rattle.wfc_model.specs.Legal.{Pin}
use Rattle.wfc_blocks.specs.Blocks.{area_with}
use Rattle.wfc_blocks.specs.Covers.{area_of}
use Rattle.wfc_blocks.proofs.PromiseLemmas.{grown_promises, growable_from}
use Rattle.wfc_blocks.proofs.GrownLemmas.{first_room, some_block}
use Rattle.wfc_blocks.proofs.whole.grow.Goals as goal

pub block-requires : goal.block-requires
block-requires g c =
    let cover = c.new-cover.result in
    record { number_in = some_block cover.n (area_of cover) cover.long cover.wide cover.high }

pub pairs-product-requires-clause-high : goal.pairs-product-requires-clause-high
pairs-product-requires-clause-high g c =
    let cover = c.new-cover.result in
    (first_room cover.n c.args.patterns.now.n (area_of cover) c.block.result (sym (c.new-cover.ensures.n ∙ c.n-n.ensures.value)) c.block.ensures.value cover.long cover.wide cover.high).1

pub returns-clause-legal : goal.returns-clause-legal
returns-clause-legal g c =
    let cover = c.new-cover.result in
    (grown_promises (λ (marks : Vec Pin Global). marks.items) c.args.patterns.now c.args.palette.now (area_of cover) (area_with c.args.width c.args.height c.args.side) c.args.pins.now c.requires.alike.0 c.args.budget c.args.seed cover.n c.in_ok-marks.marks c.deref.result.now c.in_ok-grown.grown
    c.n-n.ensures.patterns c.new-cover.ensures.area (c.new-cover.ensures.n ∙ c.n-n.ensures.value) c.deref.ensures.value c.in_ok-marks.ensures.exact
    (growable_from c.args.patterns.now (area_of cover) c.block.result cover.n c.pairs-product.result (c.new-cover.ensures.n ∙ c.n-n.ensures.value) cover.wide cover.high cover.long c.block.ensures.value c.pairs-product.ensures.value (omega (arith, c.if-product-gt-MAX_PAIRS.false)))
    (omega (arith, c.count.ensures.value, c.from-count.ensures, c.if-count-gt-MAX_BLOCKS.false)) (c.in_ok-grown.ensures.grown c.requires.alike.0 c.requires.alike.1)).0

pub returns-clause-stuck : goal.returns-clause-stuck
returns-clause-stuck g c =
    let cover = c.new-cover.result in
    (grown_promises (λ (marks : Vec Pin Global). marks.items) c.args.patterns.now c.args.palette.now (area_of cover) (area_with c.args.width c.args.height c.args.side) c.args.pins.now c.requires.alike.0 c.args.budget c.args.seed cover.n c.in_ok-marks.marks c.deref.result.now c.in_ok-grown.grown
    c.n-n.ensures.patterns c.new-cover.ensures.area (c.new-cover.ensures.n ∙ c.n-n.ensures.value) c.deref.ensures.value c.in_ok-marks.ensures.exact
    (growable_from c.args.patterns.now (area_of cover) c.block.result cover.n c.pairs-product.result (c.new-cover.ensures.n ∙ c.n-n.ensures.value) cover.wide cover.high cover.long c.block.ensures.value c.pairs-product.ensures.value (omega (arith, c.if-product-gt-MAX_PAIRS.false)))
    (omega (arith, c.count.ensures.value, c.from-count.ensures, c.if-count-gt-MAX_BLOCKS.false)) (c.in_ok-grown.ensures.grown c.requires.alike.0 c.requires.alike.1)).1
