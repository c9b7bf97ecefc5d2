-- What stays set, and what a block that is set shows of the whole.
use Rattle.std.proofs.Common.{◌≡◌, ℕ, ◌+◌, ◌-◌, ◌<◌, Bool, true, false, Option, None, Some, List, [], get_or, refl, subst, ap, ◌∙◌, arith, zero-add, if◌then◌else◌}
use Rattle.std.specs.Prelude.{All}
use Rattle.std.specs.List.{AllByRecursion}
use Rattle.std.proofs.lemmas.List.Elements.{All-from_recursion, recursion_from_All}
use Rattle.std.proofs.lemmas.List.FromFn.{length-map-range_with_len, get_or-map-range_with_len}
use Rattle.wfc_model.specs.Legal.{Pin, kept_pin, IsHeld, Rules, IsLegalPicture}
use Rattle.wfc_model.specs.Raster.{Raster, height_of, number_at, IsSized}
use Rattle.wfc_lists.proofs.Lists.{each-append, each_front, each_back, sieved_all}
use Rattle.wfc_model.proofs.CallerLemmas.{made_sized}
use Rattle.wfc_overlap.specs.Bridge.{AreInside}
use Rattle.wfc_lists.proofs.Ranges.{each_in_rows, rows_each}
use Rattle.wfc_blocks.specs.Blocks.{Area, lies_in, output_of_block}
use Rattle.wfc_blocks.specs.Canvas.{Canvas, with_block, number_set, canvas_row, canvas_picture, made_if_set, made_in_row, made_in_block, pin_in_block, pins_within, pins_of_block}
use Rattle.wfc_blocks.specs.declared.block.Block.{Block}
use Rattle.wfc_blocks.proofs.BlockLemmas.{IsIn, lies_back}

-- what one canvas has set, another has too
abbrev pub Extends : Canvas → Canvas → Type 0
Extends canvas more = (x y number : ℕ) → canvas x y ≡ Some number → more x y ≡ Some number

-- ---- a picture that holds the pins of what is set

-- what holds of all that is made of a block holds of what is made of each number that is set in it
pub made_at : {X : Type 0} (P : X → Type 0) (make : ℕ → ℕ → ℕ → X) (canvas : Canvas) (block : Block) → AllByRecursion P (made_in_block make canvas block) → (i j number : ℕ) → i < block.width → j < block.height → canvas (block.x + i) (block.y + j) ≡ Some number → P (make i j number)
made_at P make canvas block all i j number column row is =
    let in_row = rows_each P (λ k. made_in_row make canvas block k) 0 block.height all j (omega arith) (omega arith) in
    let one = rows_each P (λ k. made_if_set make k j (canvas (block.x + k) (block.y + j))) 0 block.width in_row i (omega arith) (omega arith) in
    (subst (λ o. AllByRecursion P (made_if_set make i j o)) is one).0

-- where each number that is set in a block is made to something, it holds of all that is made
pub made_all : {X : Type 0} (P : X → Type 0) (make : ℕ → ℕ → ℕ → X) (canvas : Canvas) (block : Block) → ((i j number : ℕ) → i < block.width → j < block.height → canvas (block.x + i) (block.y + j) ≡ Some number → P (make i j number)) → AllByRecursion P (made_in_block make canvas block)
made_all P make canvas block holds =
    each_in_rows P (λ j. made_in_row make canvas block j) 0 block.height (λ j _ row.
    each_in_rows P (λ i. made_if_set make i j (canvas (block.x + i) (block.y + j))) 0 block.width (λ i _ column.
    of_one i j (canvas (block.x + i) (block.y + j)) (λ number is. holds i j number (omega arith) (omega arith) is)))
  where
    of_one : (i j : ℕ) (o : Option ℕ) → ((number : ℕ) → o ≡ Some number → P (make i j number)) → AllByRecursion P (made_if_set make i j o)
    of_one i j None each = tt
    of_one i j (Some number) each = (each number refl, tt)

-- so a picture that holds the pins of a block has what is set
pub held_set : (m : Raster) (pins : List Pin) (canvas : Canvas) (block : Block) → All (IsHeld m) (pins_of_block pins canvas block) → (x y number : ℕ) → IsIn block x y → canvas x y ≡ Some number → number_at m (x - block.x) (y - block.y) ≡ number
held_set m pins canvas block held x y number inside is =
    let i = x - block.x in
    let j = y - block.y in
    let column : block.x + i ≡ x = omega (arith, inside.left) in
    let row : block.y + j ≡ y = omega (arith, inside.top) in
    let all = each_front (IsHeld m) (made_in_block kept_pin canvas block) (pins_within block pins) (recursion_from_All (IsHeld m) (pins_of_block pins canvas block) held) in
    (made_at (IsHeld m) kept_pin canvas block all i j number (omega (arith, inside.left, inside.right)) (omega (arith, inside.top, inside.bottom))
    (ap (λ k. canvas k (block.y + j)) column ∙ ap (λ k. canvas x k) row ∙ is)).number

-- and holds those that lie in it
pub held_within : (m : Raster) (pins : List Pin) (canvas : Canvas) (block : Block) → All (IsHeld m) (pins_of_block pins canvas block) → All (IsHeld m) (pins_within block pins)
held_within m pins canvas block held =
    All-from_recursion (IsHeld m) (pins_within block pins)
    (each_back (IsHeld m) (made_in_block kept_pin canvas block) (pins_within block pins) (recursion_from_All (IsHeld m) (pins_of_block pins canvas block) held))

-- ---- the canvas with a block

pub with_inside : (canvas : Canvas) (block : Block) (m : Raster) (x y : ℕ) → lies_in block x y ≡ true → with_block canvas block m x y ≡ Some (number_at m (x - block.x) (y - block.y))
with_inside canvas block m x y lies = ap (λ b. if b then Some (number_at m (x - block.x) (y - block.y)) else canvas x y) lies

pub with_outside : (canvas : Canvas) (block : Block) (m : Raster) (x y : ℕ) → lies_in block x y ≡ false → with_block canvas block m x y ≡ canvas x y
with_outside canvas block m x y lies = ap (λ b. if b then Some (number_at m (x - block.x) (y - block.y)) else canvas x y) lies

-- it has what was set, where the picture holds the pins of the block
pub with_extends : (m : Raster) (pins : List Pin) (canvas : Canvas) (block : Block) → All (IsHeld m) (pins_of_block pins canvas block) → Extends canvas (with_block canvas block m)
with_extends m pins canvas block held x y number is = by (lies_in block x y) refl
  where
    by : (b : Bool) → lies_in block x y ≡ b → with_block canvas block m x y ≡ Some number
    by true lies = with_inside canvas block m x y lies ∙ ap Some (held_set m pins canvas block held x y number (lies_back block x y lies) is)
    by false lies = with_outside canvas block m x y lies ∙ is

-- ---- a block that is set

-- a block is set to a legal picture of it
pub record IsDone (sample : Raster) (rules : Rules) (pins : List Pin) (canvas : Canvas) (block : Block) : Type 0 where
  pub picture : Raster
  pub legal : IsLegalPicture sample rules (pins_within block pins) block.width block.height picture
  pub set : (x y : ℕ) → lies_in block x y ≡ true → canvas x y ≡ Some (number_at picture (x - block.x) (y - block.y))

-- it stays so
pub done_more : (sample : Raster) (rules : Rules) (pins : List Pin) (canvas more : Canvas) (block : Block) → IsDone sample rules pins canvas block → Extends canvas more → IsDone sample rules pins more block
done_more sample rules pins canvas more block is on = record {
  picture = is.picture;
  legal = is.legal;
  set = λ x y lies. on x y (number_at is.picture (x - block.x) (y - block.y)) (is.set x y lies);
}

-- it is, where its picture is legal with its pins
pub done_now : (sample : Raster) (rules : Rules) (pins : List Pin) (canvas : Canvas) (block : Block) (m : Raster) → IsLegalPicture sample rules (pins_of_block pins canvas block) block.width block.height m → IsDone sample rules pins (with_block canvas block m) block
done_now sample rules pins canvas block m legal = record {
  picture = m;
  legal = record { sized = legal.sized; wide = legal.wide; high = legal.high; windows = legal.windows; held = held_within m pins canvas block legal.held };
  set = with_inside canvas block m;
}

-- ---- the picture of a canvas

pub height-canvas : (area : Area) (canvas : Canvas) → height_of (canvas_picture area canvas) ≡ area.height
height-canvas area canvas = length-map-range_with_len (λ y. canvas_row area canvas y) 0 area.height

pub canvas-at : (area : Area) (canvas : Canvas) (x y : ℕ) → x < area.width → y < area.height → number_at (canvas_picture area canvas) x y ≡ number_set (canvas x y)
canvas-at area canvas x y column row =
    ap (λ (r : List ℕ). get_or r x 0) (get_or-map-range_with_len (λ j. canvas_row area canvas j) 0 area.height y y [] row (zero-add y))
    ∙ get_or-map-range_with_len (λ i. number_set (canvas i y)) 0 area.width x x 0 column (zero-add x)

pub canvas_sized : (area : Area) (canvas : Canvas) → 0 < area.width → 0 < area.height → IsSized (canvas_picture area canvas) area.width area.height
canvas_sized area canvas some_column some_row = made_sized (λ x y. number_set (canvas x y)) area.width area.height some_column some_row

-- where a block is set, the whole has the numbers of its picture
pub done-at : (sample : Raster) (rules : Rules) (pins : List Pin) (area : Area) (canvas : Canvas) (block : Block) (is : IsDone sample rules pins canvas block) (x y : ℕ) → x < area.width → y < area.height → lies_in block x y ≡ true → number_at (canvas_picture area canvas) x y ≡ number_at is.picture (x - block.x) (y - block.y)
done-at sample rules pins area canvas block is x y column row lies =
    canvas-at area canvas x y column row ∙ ap number_set (is.set x y lies)

-- ---- the pins of a block lie in it

pub pins_in_block : (pins : List Pin) (canvas : Canvas) (block : Block) → AreInside (output_of_block block) (pins_of_block pins canvas block)
pins_in_block pins canvas block =
    All-from_recursion (λ (pin : Pin). (pin.column < block.width) × (pin.row < block.height)) (pins_of_block pins canvas block)
    (each-append (λ (pin : Pin). (pin.column < block.width) × (pin.row < block.height)) (made_in_block kept_pin canvas block) (pins_within block pins)
    (made_all (λ (pin : Pin). (pin.column < block.width) × (pin.row < block.height)) kept_pin canvas block (λ i j number column row _. (column, row)))
    (sieved_all (λ (pin : Pin). (pin.column < block.width) × (pin.row < block.height)) (λ pin. pin_in_block block pin) (λ (pin : Pin). lies_in block pin.column pin.row) pins (λ k d _ lies.
    let is = lies_back block (get_or pins k d).column (get_or pins k d).row lies in
    (omega (arith, is.left, is.right), omega (arith, is.top, is.bottom)))))
