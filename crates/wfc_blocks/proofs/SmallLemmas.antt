-- What growth sets are numbers of the patterns.
use Rattle.std.proofs.Common.{◌≡◌, ℕ, ◌-◌, ◌<◌, Bool, true, false, Option, None, Some, List, [], ◌∷◌, get_or, ap, sym, ◌∙◌, refl, subst, arith, zero-add}
use Rattle.std.specs.Prelude.{slice_index}
use Rattle.std.proofs.lemmas.List.FromFn.{get_or-map-range_with_len}
use Rattle.std.proofs.lemmas.Option.{none-some}
use Rattle.wfc_model.specs.Raster.{number_at}
use Rattle.wfc_pattern.specs.Patterns.{PatternsView}
use Rattle.wfc_overlap.specs.Bridge.{picture_of, pixel_of, picture_row}
use Rattle.wfc_overlap.proofs.CallerLemmas.{pixel_small}
use Rattle.wfc_search.specs.Run.{State}
use Rattle.wfc_search.specs.declared.Outcome.{Outcome}
use Rattle.wfc_search.specs.declared.Outcome.TheVariants as outcome
use Rattle.wfc_blocks.specs.Blocks.{Area, lies_in, output_of_block}
use Rattle.wfc_blocks.specs.Canvas.{Canvas, empty_canvas, with_block}
use Rattle.wfc_blocks.specs.Growth.{AreNumbersBelow, Growth, Terms, after_end, block_end, full, growth_of, growth_over, picture_of_block, spent, stopped}
use Rattle.wfc_blocks.specs.declared.block.Block.{Block}
use Rattle.wfc_blocks.proofs.BlockLemmas.{lies_back}
use Rattle.wfc_blocks.proofs.CanvasLemmas.{with_inside, with_outside}

-- a pixel that patterns with small numbers paint in a block is small
pub picture_small : (limit : ℕ) (patterns : PatternsView) (block : Block) (a : List ℕ) (x y : ℕ) → 0 < limit → AreNumbersBelow limit patterns → x < block.width → y < block.height → number_at (picture_of patterns (output_of_block block) a) x y < limit
picture_small limit patterns block a x y some small column row =
    let output = output_of_block block in
    let line : get_or (picture_of patterns output a).rows y [] ≡ picture_row patterns output a y = get_or-map-range_with_len (λ j. picture_row patterns output a j) 0 block.height y y [] row (zero-add y) in
    let is : number_at (picture_of patterns output a) x y ≡ pixel_of patterns output a x y =
    ap (λ (r : List ℕ). slice_index r x) line ∙ get_or-map-range_with_len (λ i. pixel_of patterns output a i y) 0 block.width x x 0 column (zero-add x) in
    subst (λ n. n < limit) (sym is) (pixel_small limit patterns output a x y some small)

-- each number that is set is below a limit
abbrev pub AreSetBelow : ℕ → Canvas → Type 0
AreSetBelow limit canvas = (x y number : ℕ) → canvas x y ≡ Some number → number < limit

module _ (limit : ℕ) (terms : Terms) (some : 0 < limit) (small : AreNumbersBelow limit terms.patterns) where
  -- it stays so when a block is set
  block_small : (canvas : Canvas) (block : Block) (s : State) → AreSetBelow limit canvas → AreSetBelow limit (with_block canvas block (picture_of_block terms canvas block s))
  block_small canvas block s below x y number is = by (lies_in block x y) refl
    where
      by : (b : Bool) → lies_in block x y ≡ b → number < limit
      by true lies =
          let at = lies_back block x y lies in
          let m = picture_of_block terms canvas block s in
          let same : number_at m (x - block.x) (y - block.y) ≡ number = cc (sym (with_inside canvas block m x y lies), is) in
          subst (λ n. n < limit) same (picture_small limit terms.patterns block _ (x - block.x) (y - block.y) some small (omega (arith, at.left, at.right)) (omega (arith, at.top, at.bottom)))
      by false lies = below x y number (sym (with_outside canvas block (picture_of_block terms canvas block s) x y lies) ∙ is)

  -- what is set where growth stops
  abbrev canvas_at : Growth → Canvas
  canvas_at (full canvas) = canvas
  canvas_at (stopped block canvas) = canvas
  canvas_at spent = empty_canvas

  none_small : AreSetBelow limit empty_canvas
  none_small x y number is = absurd (none-some number is)

  past_small : (block : Block) (blocks : List Block) → ((canvas : Canvas) → AreSetBelow limit canvas → AreSetBelow limit (canvas_at (growth_over terms blocks canvas)))
      → (canvas : Canvas) → AreSetBelow limit canvas → (o : Option (Outcome × State)) → AreSetBelow limit (canvas_at (after_end terms canvas block o (λ next. growth_over terms blocks next)))
  past_small block blocks on canvas below None = none_small
  past_small block blocks on canvas below (Some (outcome.Spent, s)) = none_small
  past_small block blocks on canvas below (Some (outcome.NoMap, s)) = below
  past_small block blocks on canvas below (Some (outcome.Map, s)) = on (with_block canvas block (picture_of_block terms canvas block s)) (block_small canvas block s below)

  over_small : (blocks : List Block) (canvas : Canvas) → AreSetBelow limit canvas → AreSetBelow limit (canvas_at (growth_over terms blocks canvas))
  over_small [] canvas below = below
  over_small (block ∷ blocks) canvas below = past_small block blocks (over_small blocks) canvas below (block_end terms canvas block)

  pub stopped_small : (area : Area) (block : Block) (canvas : Canvas) → growth_of area terms ≡ stopped block canvas → AreSetBelow limit canvas
  stopped_small area block canvas is = subst (λ (g : Growth). AreSetBelow limit (canvas_at g)) is (over_small _ empty_canvas none_small)

  pub full_small : (area : Area) (canvas : Canvas) → growth_of area terms ≡ full canvas → AreSetBelow limit canvas
  full_small area canvas is = subst (λ (g : Growth). AreSetBelow limit (canvas_at g)) is (over_small _ empty_canvas none_small)
