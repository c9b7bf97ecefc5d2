use Rattle.std.proofs.Common.{◌<◌, ap, subst, sym, ◌∙◌, arith}
use Rattle.wfc_overlap.specs.Bridge.{IsRoom}
use Rattle.wfc_search.specs.declared.Outcome.TheVariants as outcome
use Rattle.wfc_blocks.specs.Blocks.{block_at, block_count, output_of_block}
use Rattle.wfc_blocks.specs.CanvasView.{LiesWithin, canvas_of}
use Rattle.wfc_blocks.specs.Covers.{area_of}
use Rattle.wfc_blocks.specs.Grown.{terms_with}
use Rattle.wfc_blocks.specs.Growth.{stopped}
use Rattle.wfc_blocks.proofs.StepLemmas.{lies_by, on_end, on_map, on_none, on_spent, room_of, split_all, step_at}
use Rattle.wfc_blocks.proofs.WholeLemmas.{block_within}
use Rattle.wfc_blocks.proofs.growing.fill_blocks.Goals as goal

pub fill_block-requires-clause-room : goal.fill_block-requires-clause-room
fill_block-requires-clause-room g c =
    let cover = c.args.cover in
    let inside : c.loop-number.number < block_count cover.n (area_of cover) = omega (arith, c.loop-number-test.true, c.loop-number.invariant.count) in
    subst (λ block. IsRoom c.args.patterns.now (output_of_block block)) (sym c.block-block.ensures.value)
    (room_of c.args.patterns.now (area_of cover) cover.n c.loop-number.number c.requires.n c.requires.growable inside)

pub fill_block-requires-clause-within : goal.fill_block-requires-clause-within
fill_block-requires-clause-within g c =
    let cover = c.args.cover in
    let inside : c.loop-number.number < block_count cover.n (area_of cover) = omega (arith, c.loop-number-test.true, c.loop-number.invariant.count) in
    lies_by c.loop-number.canvas.width c.loop-number.canvas.height cover.width cover.height c.block-block.result (block_at cover.n (area_of cover) c.loop-number.number)
    (c.loop-number.invariant.alike.width ∙ c.requires.width) (c.loop-number.invariant.alike.height ∙ c.requires.height) c.block-block.ensures.value
    (block_within cover.n (area_of cover) c.loop-number.number inside cover.some_side cover.long cover.wide cover.high)

pub returns-in-NoMap-clause-growth : goal.returns-in-NoMap-clause-growth
returns-in-NoMap-clause-growth g c = λ rule all.
    let cover = c.args.cover in
    let k = c.loop-number.number in
    let block = block_at cover.n (area_of cover) k in
    let canvas = canvas_of c.loop-number.canvas in
    let more = canvas_of c.fill_block.new.canvas in
    let parts = split_all rule _ _ _ c.next-chooser.ensures.rules (c.loop-number.invariant.rules rule all) in
    let step = step_at c.args.patterns.now c.args.budget c.args.seed c.args.marks.now _ rule c.block-block.result block canvas more c.in_ok-outcome.outcome outcome.NoMap parts.1 c.block-block.ensures.value c.in-NoMap.is c.in_ok-outcome.ensures.step in
    on_none (terms_with c.args.patterns.now rule c.args.budget c.args.seed c.args.marks.now) cover.n (area_of cover) c.count-number-end.result k canvas more _ c.loop-number-test.true step (c.loop-number.invariant.growth rule all)
    ∙ ap (λ b. stopped b more) (sym c.block-block.ensures.value)

pub returns-in-NoMap-clause-within : goal.returns-in-NoMap-clause-within
returns-in-NoMap-clause-within g c =
    let cover = c.args.cover in
    let inside : c.loop-number.number < block_count cover.n (area_of cover) = omega (arith, c.loop-number-test.true, c.loop-number.invariant.count) in
    subst (λ block. LiesWithin cover.width cover.height block) (sym c.block-block.ensures.value)
    (block_within cover.n (area_of cover) c.loop-number.number inside cover.some_side cover.long cover.wide cover.high)

pub returns-in-Spent-clause-growth : goal.returns-in-Spent-clause-growth
returns-in-Spent-clause-growth g c = λ rule all.
    let cover = c.args.cover in
    let k = c.loop-number.number in
    let block = block_at cover.n (area_of cover) k in
    let canvas = canvas_of c.loop-number.canvas in
    let more = canvas_of c.fill_block.new.canvas in
    let parts = split_all rule _ _ _ c.next-chooser.ensures.rules (c.loop-number.invariant.rules rule all) in
    let step = step_at c.args.patterns.now c.args.budget c.args.seed c.args.marks.now _ rule c.block-block.result block canvas more c.in_ok-outcome.outcome outcome.Spent parts.1 c.block-block.ensures.value c.in-Spent.is c.in_ok-outcome.ensures.step in
    on_spent (terms_with c.args.patterns.now rule c.args.budget c.args.seed c.args.marks.now) cover.n (area_of cover) c.count-number-end.result k canvas more _ c.loop-number-test.true step (c.loop-number.invariant.growth rule all)

pub loop-number-preserved : goal.loop-number-preserved
loop-number-preserved g c = record {
  supports = c.in_ok-outcome.ensures.supports;
  alike = record {
    width = c.in_ok-outcome.ensures.alike.width ∙ c.loop-number.invariant.alike.width;
    height = c.in_ok-outcome.ensures.alike.height ∙ c.loop-number.invariant.alike.height;
  };
  count = c.loop-number.invariant.count;
  enough = omega (arith, c.loop-number.invariant.enough, c.next-chooser.ensures.fewer);
  rules = λ rule all. (split_all rule _ _ _ c.next-chooser.ensures.rules (c.loop-number.invariant.rules rule all)).0;
  growth = λ rule all.
      let cover = c.args.cover in
      let k = c.loop-number.number in
      let block = block_at cover.n (area_of cover) k in
      let canvas = canvas_of c.loop-number.canvas in
      let more = canvas_of c.fill_block.new.canvas in
      let parts = split_all rule _ _ _ c.next-chooser.ensures.rules (c.loop-number.invariant.rules rule all) in
      let step = step_at c.args.patterns.now c.args.budget c.args.seed c.args.marks.now _ rule c.block-block.result block canvas more c.in_ok-outcome.outcome outcome.Map parts.1 c.block-block.ensures.value c.in-Map.is c.in_ok-outcome.ensures.step in
      on_map (terms_with c.args.patterns.now rule c.args.budget c.args.seed c.args.marks.now) cover.n (area_of cover) c.count-number-end.result k canvas more _ c.loop-number-test.true step (c.loop-number.invariant.growth rule all);
}

pub returns-clause-growth : goal.returns-clause-growth
returns-clause-growth g c = λ rule all.
    let cover = c.args.cover in
    on_end (terms_with c.args.patterns.now rule c.args.budget c.args.seed c.args.marks.now) cover.n (area_of cover) c.count-number-end.result c.loop-number.number (canvas_of c.loop-number.canvas) _ c.loop-number-test.false (c.loop-number.invariant.growth rule all)
