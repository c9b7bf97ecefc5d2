-- What follows from what `grow` works on: its map can be written, and the run of a stuck block ends in no map.
use Rattle.std.proofs.Common.{List, None, Option, Some, ap, arith, length, map, refl, subst, sym, ℕ, ◌<◌, ◌∙◌, ◌≡◌, ◌≤◌}
use Rattle.std.proofs.lemmas.List.Elements.{All-contains, All-map}
use Rattle.std.specs.List.{range_with_len}
use Rattle.std.specs.Prelude.{All, Contains, IsTrue}
use Rattle.wfc_blocks.proofs.CallerLemmas.{AreSetBelow, IsGrownBy, canvas_sized, full_small, grown_by, growth_stopped, lines_built, lines_meant, stopped_small}
use Rattle.wfc_blocks.specs.Blocks.{Area, block_at, block_count, blocks_of}
use Rattle.wfc_blocks.specs.Canvas.{Canvas, canvas_picture, lines_of_block, number_set, pins_of_block}
use Rattle.wfc_blocks.specs.Grown.{shown_growth, terms_with}
use Rattle.wfc_blocks.specs.Growth.{Growth, full, growth_of, problem_of_block, spent, stopped}
use Rattle.wfc_blocks.specs.Promises.{IsNamedBy}
use Rattle.wfc_blocks.specs.StuckView.{StuckView}
use Rattle.wfc_blocks.specs.declared.block.Block.{Block}
use Rattle.wfc_blocks.specs.declared.grown.Grown.{Grown}
use Rattle.wfc_blocks.specs.declared.grown.Grown.TheVariants as grown
use Rattle.wfc_choose.specs.Pick.{Rule}
use Rattle.wfc_grow_command.specs.GrowAnswer.{IsGrowthBy}
use Rattle.wfc_grow_command.specs.GrowGiven.{IsGrowAsked}
use Rattle.wfc_grow_command.specs.GrowTask.{area_asked, growing_view}
use Rattle.wfc_grow_command.specs.Growing.{CanBePut, IsGrowing, IsStuckRun}
use Rattle.wfc_grow_command.specs.declared.growing.Growing.{Growing}
use Rattle.wfc_model.specs.Raster.{IsSized, numbers_of}
use Rattle.wfc_overlap.specs.Built.{texts_of}
use Rattle.wfc_pattern.specs.Patterns.{PatternsView}
use Rattle.wfc_picture.specs.declared.symbol.Symbol.{Symbol}
use Rattle.wfc_pins.specs.PinView.{PinView}
use Rattle.wfc_plan.proofs.CallerLemmas.{unrefused}
use Rattle.wfc_plan.specs.declared.fault.Refusal.TheVariants.{Render}
use Rattle.wfc_render.specs.Layout.{layout_of}
use Rattle.wfc_render.specs.Map.{IsWritten, is_of_kind}
use Rattle.wfc_task.proofs.CallerLemmas.{IsLaidOut, each_joined, laid_out, shown_palette}
use Rattle.wfc_task.specs.Asked.{IsOutputAsked}
use Rattle.wfc_words.specs.RequestView.{RequestView}

-- the palette names the numbers of the patterns
pub palette_named : (asked : RequestView) (growing : Growing) → IsGrowing asked growing → IsNamedBy growing.taught.palette growing.taught.patterns
palette_named asked growing is = record {
  shown = shown_palette growing.taught.kind growing.taught.palette is.lesson.shown;
  apart = is.apart;
  some_symbol = is.lesson.shown.some_symbol;
  below = is.lesson.numbers;
}

-- ---- the picture

-- a number that is set is small, and so is 0 where none is
set_small : (limit : ℕ) (canvas : Canvas) (x y : ℕ) → 0 < limit → AreSetBelow limit canvas → number_set (canvas x y) < limit
set_small limit canvas x y some below = by_set (canvas x y) (λ number is. below x y number is)
  where
    by_set : (o : Option ℕ) → ((number : ℕ) → o ≡ Some number → number < limit) → number_set o < limit
    by_set None known = some
    by_set (Some number) known = known number refl

canvas_small : (limit : ℕ) (area : Area) (canvas : Canvas) → 0 < limit → AreSetBelow limit canvas → All (λ n. n < limit) (numbers_of (canvas_picture area canvas))
canvas_small limit area canvas some below =
    each_joined (λ n. n < limit) (λ y. map (λ x. number_set (canvas x y)) (range_with_len 0 area.width))
    (λ y. All-map (λ n. n < limit) (λ x. number_set (canvas x y)) (range_with_len 0 area.width) (λ k d inside. set_small limit canvas _ y some below)) (range_with_len 0 area.height)

-- a picture of small numbers can be written
grown_written : (asked : RequestView) (growing : Growing) (canvas : Canvas) → IsOutputAsked asked → IsGrowing asked growing → AreSetBelow (length growing.taught.palette) canvas
    → IsWritten growing.layout growing.taught.palette (canvas_picture (area_asked asked) canvas)
grown_written asked growing canvas output is below =
    let m = canvas_picture (area_asked asked) canvas in
    let laid : IsLaidOut growing.taught.kind asked.width asked.height 1 growing.layout =
    laid_out growing.taught.kind asked.form asked.width asked.height 1 growing.layout (unrefused Render (layout_of growing.taught.kind asked.form asked.width asked.height 1) growing.layout is.layout) in
    record {
      answered = laid.layout;
      pixels = laid.side_is;
      kind = subst (λ k. All (λ symbol. IsTrue (is_of_kind k symbol)) growing.taught.palette) (sym laid.same_kind) is.lesson.shown.symbols;
      some_symbol = is.lesson.shown.some_symbol;
      sized =
          subst (λ w. IsSized m w growing.layout.height) (sym laid.width_is)
          (subst (λ h. IsSized m asked.width h) (sym laid.height_is) (canvas_sized (area_asked asked) canvas output.some_width output.some_height));
      numbers = canvas_small (length growing.taught.palette) (area_asked asked) canvas is.lesson.shown.some_symbol below;
    }

-- ---- the block

-- the sides of a block of an area are at most those asked for
record IsNarrow (side : ℕ) (block : Block) : Type 0 where
  width : block.width ≤ side
  height : block.height ≤ side

block_narrow : (n : ℕ) (area : Area) (block : Block) → Contains (blocks_of n area) block → IsNarrow area.side block
block_narrow n area block among =
    All-contains (IsNarrow area.side) (blocks_of n area) block
    (All-map (IsNarrow area.side) (λ k. block_at n area k) (range_with_len 0 (block_count n area)) (λ k d inside. record { width = omega arith; height = omega arith })) among

-- what is grown of a growing, by a rule
growth_known : (asked : RequestView) (growing : Growing) (rule : Rule) (made : Grown) → IsGrowAsked asked → IsGrowing asked growing → IsGrowthBy asked (growing_view growing) rule made
    → IsGrownBy growing.taught.patterns growing.taught.palette (area_asked asked) growing.lines.items rule asked.budget asked.seed made
growth_known asked growing rule made asks is grows =
    grown_by growing.taught.patterns growing.taught.palette (area_asked asked) growing.lines.items rule asked.budget asked.seed made (omega (arith, is.side, asks.some_block)) grows

pub can_be_put : (asked : RequestView) (growing : Growing) (rule : Rule) (made : Grown) → IsOutputAsked asked → IsGrowAsked asked → IsGrowing asked growing → IsGrowthBy asked (growing_view growing) rule made
    → CanBePut rule asked (growing_view growing) made
can_be_put asked growing rule made output asks is grows =
    let by = growth_known asked growing rule made asks is grows in
    let terms = terms_with growing.taught.patterns rule asked.budget asked.seed by.pins in
    by_growth by (growth_of (area_asked asked) terms) refl
  where
    patterns : PatternsView
    patterns = growing.taught.patterns

    palette : List Symbol
    palette = growing.taught.palette

    area : Area
    area = area_asked asked

    lines : List PinView
    lines = growing.lines.items

    by_growth : (by : IsGrownBy patterns palette area lines rule asked.budget asked.seed made) (g : Growth) → growth_of area (terms_with patterns rule asked.budget asked.seed by.pins) ≡ g → CanBePut rule asked (growing_view growing) made
    by_growth by (full canvas) ends =
        let shown : grown.Map (canvas_picture area canvas) ≡ made = sym (ap (shown_growth (texts_of palette) lines area) ends) ∙ by.is in
        let below = full_small (length palette) (terms_with patterns rule asked.budget asked.seed by.pins) is.lesson.shown.some_symbol is.lesson.numbers area canvas ends in
        subst (CanBePut rule asked (growing_view growing)) shown (grown_written asked growing canvas output is below)
    by_growth by spent ends =
        let shown : grown.Spent ≡ made = sym (ap (shown_growth (texts_of palette) lines area) ends) ∙ by.is in
        subst (CanBePut rule asked (growing_view growing)) shown tt
    by_growth by (stopped block canvas) ends =
        let terms = terms_with patterns rule asked.budget asked.seed by.pins in
        let own = lines_of_block (texts_of palette) lines canvas block in
        let stuck : StuckView = record { block = block; pins = own } in
        let shown : grown.Stuck stuck ≡ made = sym (ap (shown_growth (texts_of palette) lines area) ends) ∙ by.is in
        let below = stopped_small (length palette) terms is.lesson.shown.some_symbol is.lesson.numbers area block canvas ends in
        let named = palette_named asked growing is in
        let at = growth_stopped area terms is.lesson.patterns by.growable block canvas ends in
        let narrow = block_narrow patterns.n area block at.among in
        let meant = lines_meant palette area.width area.height lines by.pins canvas block named.shown named.apart below by.meant in
        let run : IsStuckRun rule asked (growing_view growing) stuck = record {
          P = problem_of_block terms canvas block;
          problem = lines_built patterns palette block own (pins_of_block by.pins canvas block) at.room meant;
          ends = (at.state, at.ends);
          some_width = omega (arith, is.lesson.patterns.some_side, at.room.wide);
          some_height = omega (arith, is.lesson.patterns.some_side, at.room.high);
          width_limit = omega (arith, narrow.width, asks.block_limit);
          height_limit = omega (arith, narrow.height, asks.block_limit);
        } in
        subst (CanBePut rule asked (growing_view growing)) shown run
