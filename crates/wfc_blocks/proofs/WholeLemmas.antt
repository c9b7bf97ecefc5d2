-- Blocks that are each set to a legal picture make a legal picture of the whole.
use Rattle.std.proofs.Common.{◌≡◌, ℕ, zero, suc, ◌+◌, ◌-◌, ◌*◌, ◌/◌, ◌%◌, ◌<◌, ◌≤◌, Bool, false, Some, length, get_or, sym, subst, ap, take, zero-add, ◌∙◌, arith}
use Rattle.std.specs.Prelude.{All, Contains, MatchBool, ◌≢◌}
use Rattle.std.specs.List.{AllByRecursion}
use Rattle.std.proofs.Math.Nat.{mod-eq_of_lt, mul-le-mul, mul-le-mul_right, zero-div, zero-mod}
use Rattle.std.proofs.lemmas.List.Elements.{recursion_from_All}
use Rattle.std.proofs.lemmas.List.FromFn.{get_or-map-range_with_len, length-map-range_with_len}
use Rattle.std.proofs.lemmas.Nat.{mod_below, div_below}
use Rattle.wfc_model.specs.Learned.{learned}
use Rattle.wfc_model.specs.Legal.{Pin, Rules, IsHeld, IsLegalPicture}
use Rattle.wfc_model.specs.Raster.{Raster, height_of, number_at}
use Rattle.wfc_model.specs.Window.{window, places, starts}
use Rattle.wfc_model.proofs.CallerLemmas.{All-places, at_place, start_from_fit, length-places, square-same}
use Rattle.wfc_lists.proofs.Lists.{sieved_each}
use Rattle.wfc_lists.proofs.Ranges.{each_in_row, row_each}
use Rattle.wfc_pattern.specs.Patterns.{PatternsView, IsPatterns}
use Rattle.wfc_overlap.specs.Bridge.{IsRoom, IsTaughtBy, AreInside, window_pair_count}
use Rattle.wfc_overlap.specs.Sample.{output_with}
use Rattle.wfc_blocks.specs.Blocks.{Area, HasWindow, block_at, block_count, blocks_across, blocks_down, blocks_of, lies_in, output_of_block, stride, whole_of}
use Rattle.wfc_blocks.specs.Canvas.{Canvas, empty_canvas, canvas_picture, pin_in_block, pins_of_block, pins_within}
use Rattle.wfc_blocks.specs.CanvasView.{LiesWithin}
use Rattle.wfc_blocks.specs.Growth.{Terms, IsGrowable, IsSetBefore, full, growth_of, growth_over, spent, stopped}
use Rattle.wfc_blocks.specs.declared.block.Block.{Block}
use Rattle.wfc_blocks.proofs.BlockLemmas.{IsIn, block_inside, found, has_room, lies_from, nearest_found}
use Rattle.wfc_blocks.proofs.CanvasLemmas.{IsDone, canvas_sized, done-at, height-canvas}
use Rattle.wfc_blocks.proofs.GrowthLemmas.{IsSpentAt, IsStopped, grown_spent, grown_stop, grown_to, stop_none}

-- ---- each block has room

-- where a product is above a number, its first factor is above 0
some_factor : (a b k : ℕ) → k < a * b → 0 < a
some_factor zero b k inside = omega arith
some_factor (suc a) b k inside = omega arith

-- the column and the row of blocks in which a block stands
pub row_and_column : (n : ℕ) (area : Area) (k : ℕ) → k < block_count n area → (k % blocks_across n area < blocks_across n area) × (k / blocks_across n area < blocks_down n area)
row_and_column n area k inside =
    let across = blocks_across n area in
    let down = blocks_down n area in
    let some : 0 < across = some_factor across down k inside in
    (mod_below k across some, div_below k across down some (omega (arith, inside)))

-- where a block begins, by other names for the counts
pub corner_in : (n : ℕ) (area : Area) (k across step : ℕ) → across ≡ blocks_across n area → step ≡ stride n area.side → k < block_count n area → 0 < n → n ≤ area.side → n ≤ area.width → n ≤ area.height
    → (k % across * step ≤ area.width) × (k / across * step ≤ area.height)
corner_in n area k across step across_is step_is inside some long wide high =
    let at = row_and_column n area k inside in
    let column : k % across * step ≡ k % blocks_across n area * stride n area.side = λ i. k % across_is i * step_is i in
    let row : k / across * step ≡ k / blocks_across n area * stride n area.side = λ i. k / across_is i * step_is i in (
      omega (arith, column, some, has_room n area.side area.width (k % blocks_across n area) long at.0 wide),
      omega (arith, row, some, has_room n area.side area.height (k / blocks_across n area) long at.1 high),
    )

-- smaller sides have fewer pairs of a place and a pattern
pairs_fewer : (patterns : PatternsView) (w h width height : ℕ) → w ≤ width → h ≤ height → window_pair_count patterns (output_with w h false) ≤ window_pair_count patterns (output_with width height false)
pairs_fewer patterns w h width height narrow low =
    let n = patterns.n in
    let few : starts h n false * starts w n false ≤ starts height n false * starts width n false = mul-le-mul (omega arith) (omega arith) in
    mul-le-mul_right (length patterns.windows) (omega (arith, few, length-places w h n false, length-places width height n false))

-- the first block begins at the corner
at_corner : (across s : ℕ) → (0 % across * s ≡ 0) × (0 / across * s ≡ 0)
at_corner across s =
    let none : 0 * s ≡ 0 = omega arith in
    (ap (λ k. k * s) (zero-mod across) ∙ none, ap (λ k. k * s) (zero-div across) ∙ none)

-- no block is wider or higher than the first
pub no_larger : (n : ℕ) (area : Area) (k : ℕ)
    → ((block_at n area k).width ≤ (block_at n area 0).width) × ((block_at n area k).height ≤ (block_at n area 0).height)
no_larger n area k =
    let corner = at_corner (blocks_across n area) (stride n area.side) in
    (omega (arith, corner.0), omega (arith, corner.1))

-- each block has room for a window
pub block_room : (patterns : PatternsView) (area : Area) → IsGrowable patterns area → (k : ℕ) → k < block_count patterns.n area → IsRoom patterns (output_of_block (block_at patterns.n area k))
block_room patterns area growable k inside =
    let n = patterns.n in
    let across = blocks_across n area in
    let s = stride n area.side in
    let block = block_at n area k in
    let first = block_at n area 0 in
    let at = row_and_column n area k inside in
    let corner = at_corner across s in
    let fewer = pairs_fewer patterns block.width block.height first.width first.height
    (omega (arith, corner.0)) (omega (arith, corner.1)) in
    record {
      wide = has_room n area.side area.width (k % across) growable.long at.0 growable.wide;
      high = has_room n area.side area.height (k / across) growable.long at.1 growable.high;
      few_pairs = omega (arith, fewer, growable.few_pairs);
    }

-- and lies in the area
pub block_within : (n : ℕ) (area : Area) (k : ℕ) → k < block_count n area → 0 < n → n ≤ area.side → n ≤ area.width → n ≤ area.height → LiesWithin area.width area.height (block_at n area k)
block_within n area k inside some long wide high =
    let at = row_and_column n area k inside in
    let across = blocks_across n area in
    let s = stride n area.side in
    record {
      across = block_inside area.side area.width (k % across * s) n some (has_room n area.side area.width (k % across) long at.0 wide);
      down = block_inside area.side area.height (k / across * s) n some (has_room n area.side area.height (k / across) long at.1 high);
    }

-- so all of them have
pub blocks_room : (patterns : PatternsView) (area : Area) → IsGrowable patterns area → AllByRecursion (λ block. IsRoom patterns (output_of_block block)) (blocks_of patterns.n area)
blocks_room patterns area growable =
    each_in_row (λ block. IsRoom patterns (output_of_block block)) (λ k. block_at patterns.n area k) 0 (block_count patterns.n area) (λ k _ inside. block_room patterns area growable k (omega arith))

-- ---- the whole

module _ (sample : Raster) (rules : Rules) (terms : Terms) (area : Area) (last : Canvas) (taught : IsPatterns terms.patterns) (by : IsTaughtBy sample rules terms.patterns (whole_of area)) (growable : IsGrowable terms.patterns area) (done : (k : ℕ) → k < block_count terms.patterns.n area → IsDone sample rules terms.pins last (block_at terms.patterns.n area k)) where
  abbrev n : ℕ
  n = terms.patterns.n

  abbrev whole : Raster
  whole = canvas_picture area last

  -- the windows of a picture are learned, for windows of side n
  abbrev AreLearned : ℕ → Bool → Raster → ℕ → ℕ → Type 0
  AreLearned n wrap m width height = All (λ (place : ℕ × ℕ). Contains (learned sample rules.n rules.symmetry rules.wrap_in) (window m place.0 place.1 n)) (places width height n wrap)

  -- a pixel of the area has the number of its block's picture
  pixel_is : (k : ℕ) (inside : k < block_count n area) (x y : ℕ) → x < area.width → y < area.height → IsIn (block_at n area k) x y → number_at whole x y ≡ number_at (done k inside).picture (x - (block_at n area k).x) (y - (block_at n area k).y)
  pixel_is k inside x y column row is =
      done-at sample rules terms.pins area last (block_at n area k) (done k inside) x y column row (lies_from (block_at n area k) x y is)

  -- a window of the area is one of the picture of its block
  window_is : (k : ℕ) (inside : k < block_count n area) (x y : ℕ) → x + n ≤ area.width → y + n ≤ area.height → HasWindow n (block_at n area k) x y → window whole x y n ≡ window (done k inside).picture (x - (block_at n area k).x) (y - (block_at n area k).y) n
  window_is k inside x y column row has =
      let block = block_at n area k in
      let is = done k inside in
      let m = is.picture in
      square-same n (λ i j. number_at whole ((x + i) % area.width) ((y + j) % height_of whole)) (λ i j. number_at m ((x - block.x + i) % m.width) ((y - block.y + j) % height_of m)) (λ i j i_in j_in.
      let across : x + i - block.x ≡ x - block.x + i = omega (arith, has.left) in
      let below : y + j - block.y ≡ y - block.y + j = omega (arith, has.top) in
      ap (λ u. number_at whole u ((y + j) % height_of whole)) (mod-eq_of_lt (omega arith))
      ∙ ap (λ h. number_at whole (x + i) ((y + j) % h)) (height-canvas area last)
      ∙ ap (λ v. number_at whole (x + i) v) (mod-eq_of_lt (omega arith))
      ∙ pixel_is k inside (x + i) (y + j) (omega arith) (omega arith) (record { left = omega (arith, has.left); right = omega (arith, has.right); top = omega (arith, has.top); bottom = omega (arith, has.bottom) })
      ∙ ap (λ u. number_at m u (y + j - block.y)) across
      ∙ ap (λ v. number_at m (x - block.x + i) v) below
      ∙ ap (λ u. number_at m u (y - block.y + j)) (sym (mod-eq_of_lt (omega (arith, has.left, has.right, is.legal.sized.same_width))))
      ∙ ap (λ v. number_at m ((x - block.x + i) % m.width) v) (sym (mod-eq_of_lt (omega (arith, has.top, has.bottom, is.legal.sized.same_height)))))

  -- so it's learned
  window_learned : (x y : ℕ) → x < starts area.width n false → y < starts area.height n false → Contains (learned sample rules.n rules.symmetry rules.wrap_in) (window whole x y n)
  window_learned x y column row =
      let f = found n area x y growable.long column row in
      let block = block_at n area f.number in
      let is = done f.number f.inside in
      let windows : AreLearned n false is.picture block.width block.height =
      subst (λ s. AreLearned s false is.picture block.width block.height) (sym by.same_side)
      (subst (λ wrap. AreLearned rules.n wrap is.picture block.width block.height) (sym by.same_wrap) is.legal.windows) in
      subst (Contains (learned sample rules.n rules.symmetry rules.wrap_in)) (sym (window_is f.number f.inside x y (omega arith) (omega arith) f.has))
      (at_place (λ (place : ℕ × ℕ). Contains (learned sample rules.n rules.symmetry rules.wrap_in) (window is.picture place.0 place.1 n)) block.width block.height n false windows (x - block.x) (y - block.y)
      (start_from_fit block.width n (x - block.x) (omega (arith, f.has.left, f.has.right))) (start_from_fit block.height n (y - block.y) (omega (arith, f.has.top, f.has.bottom))))

  -- a pin of the area is held, since it lies in a block
  pin_held : (k : ℕ) (d : Pin) → k < length terms.pins → (get_or terms.pins k d).column < area.width → (get_or terms.pins k d).row < area.height → IsHeld whole (get_or terms.pins k d)
  pin_held k d l column row =
      let pin = get_or terms.pins k d in
      let f = nearest_found n area pin.column pin.row taught.some_side growable.long growable.wide growable.high column row in
      let block = block_at n area f.0 in
      let is = done f.0 f.1 in
      let held : IsHeld is.picture (pin_in_block block pin) =
      sieved_each (IsHeld is.picture) (λ pin. pin_in_block block pin) (λ (pin : Pin). lies_in block pin.column pin.row) terms.pins
      (recursion_from_All (IsHeld is.picture) (pins_within block terms.pins) is.legal.held) k d l (lies_from block pin.column pin.row f.2) in
      record {
        column_in = column;
        row_in = omega (arith, height-canvas area last);
        number = subst (λ number. MatchBool pin.keep (number ≡ pin.number) (number ≢ pin.number)) (sym (pixel_is f.0 f.1 pin.column pin.row column row f.2)) held.number;
      }

  pub whole_legal : AreInside (whole_of area) terms.pins → IsLegalPicture sample rules terms.pins area.width area.height whole
  whole_legal inside = record {
    sized = canvas_sized area last (omega (arith, growable.wide, taught.some_side)) (omega (arith, growable.high, taught.some_side));
    wide = subst (λ n. n ≤ area.width) by.same_side growable.wide;
    high = subst (λ n. n ≤ area.height) by.same_side growable.high;
    windows =
        subst (λ wrap. AreLearned rules.n wrap whole area.width area.height) by.same_wrap
        (subst (λ s. AreLearned s false whole area.width area.height) by.same_side
        (All-places (λ (place : ℕ × ℕ). Contains (learned sample rules.n rules.symmetry rules.wrap_in) (window whole place.0 place.1 n)) area.width area.height n false (λ x y column row. window_learned x y column row)));
    held = λ k d l. pin_held k d l (inside k d l).0 (inside k d l).1;
  }

  -- and each pixel is set
  pub whole_set : (x y : ℕ) → x < area.width → y < area.height → last x y ≡ Some (number_at whole x y)
  whole_set x y column row =
      let f = nearest_found n area x y taught.some_side growable.long growable.wide growable.high column row in
      (done f.0 f.1).set x y (lies_from (block_at n area f.0) x y f.2) ∙ ap Some (sym (pixel_is f.0 f.1 x y column row f.2))

-- ---- growth over the whole

-- the place of a block among all is its number
number_is : (n : ℕ) (area : Area) (block : Block) (among : Contains (blocks_of n area) block) → among.0 ≡ block.number
number_is n area block among =
    let count = length-map-range_with_len (λ k. block_at n area k) 0 (block_count n area) in
    let at : block_at n area among.0 ≡ block = sym (get_or-map-range_with_len (λ k. block_at n area k) 0 (block_count n area) among.0 among.0 block (omega (arith, count, among.1)) (zero-add among.0)) ∙ among.2 in
    ap (λ (b : Block). b.number) at

module _ (area : Area) (terms : Terms) (taught : IsPatterns terms.patterns) (growable : IsGrowable terms.patterns area) where
  rooms : AllByRecursion (λ block. IsRoom terms.patterns (output_of_block block)) (blocks_of terms.patterns.n area)
  rooms = blocks_room terms.patterns area growable

  pub growth_stopped : (block : Block) (canvas : Canvas) → growth_of area terms ≡ stopped block canvas → IsStopped terms taught (blocks_of terms.patterns.n area) empty_canvas block canvas
  growth_stopped block canvas is = grown_stop terms taught (blocks_of terms.patterns.n area) rooms empty_canvas canvas block is

  pub growth_spent : growth_of area terms ≡ spent → IsSpentAt terms taught (blocks_of terms.patterns.n area) empty_canvas
  growth_spent is = grown_spent terms taught (blocks_of terms.patterns.n area) rooms empty_canvas is

  -- what the blocks before a block of the area set, by its number
  set_before : (block : Block) (canvas : Canvas) (among : Contains (blocks_of terms.patterns.n area) block) → growth_over terms (take among.0 (blocks_of terms.patterns.n area)) empty_canvas ≡ full canvas → IsSetBefore area terms block canvas
  set_before block canvas among is =
      subst (λ k. growth_over terms (take k (blocks_of terms.patterns.n area)) empty_canvas ≡ full canvas) (number_is terms.patterns.n area block among) is

  pub stopped_before : (block : Block) (canvas : Canvas) → growth_of area terms ≡ stopped block canvas → IsSetBefore area terms block canvas
  stopped_before block canvas is = let at = growth_stopped block canvas is in set_before block canvas at.among at.before

  pub spent_before : (at : IsSpentAt terms taught (blocks_of terms.patterns.n area) empty_canvas) → IsSetBefore area terms at.block at.last
  spent_before at = set_before at.block at.last at.among at.before

  module _ (sample : Raster) (rules : Rules) (by : IsTaughtBy sample rules terms.patterns (whole_of area)) where
    -- the patterns are taught for any sides
    for_sides : (width height : ℕ) → IsTaughtBy sample rules terms.patterns (output_with width height false)
    for_sides width height = record { same_side = by.same_side; same_wrap = by.same_wrap; windows = by.windows }

    pub each_done : (canvas : Canvas) → growth_of area terms ≡ full canvas → (k : ℕ) → k < block_count terms.patterns.n area → IsDone sample rules terms.pins canvas (block_at terms.patterns.n area k)
    each_done canvas is k inside =
        row_each (IsDone sample rules terms.pins canvas) (λ k. block_at terms.patterns.n area k) 0 (block_count terms.patterns.n area)
        (grown_to terms taught sample rules for_sides (blocks_of terms.patterns.n area) rooms empty_canvas canvas is).1 k (omega arith) (omega arith)

    pub growth_legal : (canvas : Canvas) → AreInside (whole_of area) terms.pins → growth_of area terms ≡ full canvas → IsLegalPicture sample rules terms.pins area.width area.height (canvas_picture area canvas)
    growth_legal canvas inside is = whole_legal sample rules terms area canvas taught by growable (each_done canvas is) inside

    pub growth_set : (canvas : Canvas) (x y : ℕ) → growth_of area terms ≡ full canvas → x < area.width → y < area.height → canvas x y ≡ Some (number_at (canvas_picture area canvas) x y)
    growth_set canvas x y is column row = whole_set sample rules terms area canvas taught by growable (each_done canvas is) x y column row

    pub growth_none : (block : Block) (canvas : Canvas) (m : Raster) → growth_of area terms ≡ stopped block canvas → IsLegalPicture sample rules (pins_of_block terms.pins canvas block) block.width block.height m → ⊥
    growth_none block canvas m is legal =
        let at = growth_stopped block canvas is in
        stop_none terms taught sample rules for_sides block canvas at.state at.room at.ends m legal
