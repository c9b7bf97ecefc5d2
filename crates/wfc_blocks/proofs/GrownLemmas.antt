-- What growing answers.
use Rattle.std.proofs.Common.{◌≡◌, ℕ, ◌/◌, ◌%◌, ◌<◌, ◌≤◌, List, Result, Ok, Err, ap, sym, ◌∙◌, arith, refl}
use Rattle.std.specs.Prelude.{IfOk}
use Rattle.wfc_outside.specs.declared.NoMemory.{NoMemory}
use Rattle.wfc_pins.specs.PinView.{PinView}
use Rattle.wfc_blocks.specs.Blocks.{Area, area_with, block_at, block_count, blocks_across, blocks_of}
use Rattle.wfc_blocks.specs.Canvas.{Canvas, empty_canvas, canvas_picture}
use Rattle.wfc_blocks.specs.Grown.{shown_growth}
use Rattle.wfc_blocks.specs.Growth.{Growth, Terms, full, spent, stopped, growth_of, growth_over}
use Rattle.wfc_blocks.specs.Steps.{growth_at}
use Rattle.wfc_blocks.specs.declared.block.Block.{Block}
use Rattle.wfc_blocks.specs.declared.growing.Halt.{Halt}
use Rattle.wfc_blocks.specs.declared.grown.Grown.{Grown}
use Rattle.wfc_blocks.specs.declared.grown.Grown.TheVariants as grown
use Rattle.wfc_blocks.proofs.BlockLemmas.{found, has_room}
use Rattle.wfc_blocks.proofs.WholeLemmas.{row_and_column}

-- what is shown depends on the sides of the area alone
shown_area : (texts : List (List ℕ)) (lines : List PinView) (area : Area) (w h : ℕ) (g : Growth) → w ≡ area.width → h ≡ area.height → shown_growth texts lines (area_with w h 0) g ≡ shown_growth texts lines area g
shown_area texts lines area w h (full canvas) wide high = λ i. grown.Map (canvas_picture (area_with (wide i) (high i) 0) canvas)
shown_area texts lines area w h (stopped block canvas) wide high = refl
shown_area texts lines area w h spent wide high = refl

-- so what is answered shows growth over the whole area
pub answers_grown : (texts : List (List ℕ)) (lines : List PinView) (area : Area) (w h n : ℕ) (terms : Terms) (first last : Canvas) (halt : Halt) (result : Result Grown NoMemory)
    → IfOk result (λ grown. grown ≡ shown_growth texts lines (area_with w h 0) (growth_at halt last)) → w ≡ area.width → h ≡ area.height → n ≡ terms.patterns.n → first ≡ empty_canvas
    → growth_over terms (blocks_of n area) first ≡ growth_at halt last → IfOk result (λ grown. grown ≡ shown_growth texts lines area (growth_of area terms))
answers_grown texts lines area w h n terms first last halt (Err cause) shown wide high side none is = tt
answers_grown texts lines area w h n terms first last halt (Ok g) shown wide high side none is =
    shown ∙ shown_area texts lines area w h (growth_at halt last) wide high
    ∙ ap (shown_growth texts lines area) (sym is ∙ ap (λ n. growth_over terms (blocks_of n area) first) side ∙ ap (λ (canvas : Canvas). growth_over terms (blocks_of terms.patterns.n area) canvas) none)

-- there is a block
pub some_block : (n : ℕ) (area : Area) → n ≤ area.side → n ≤ area.width → n ≤ area.height → 0 < block_count n area
some_block n area long wide high = let f = found n area 0 0 long (omega arith) (omega arith) in omega (arith, f.inside)

-- and a window has room in the first
pub first_room : (n m : ℕ) (area : Area) (block : Block) → m ≡ n → block ≡ block_at n area 0 → n ≤ area.side → n ≤ area.width → n ≤ area.height → (m ≤ block.width) × (m ≤ block.height)
first_room n m area block same is long wide high =
    let at = row_and_column n area 0 (some_block n area long wide high) in
    let column = has_room n area.side area.width (0 % blocks_across n area) long at.0 wide in
    let row = has_room n area.side area.height (0 / blocks_across n area) long at.1 high in (
      omega (arith, same, column, ap (λ (b : Block). b.width) is),
      omega (arith, same, row, ap (λ (b : Block). b.height) is),
    )
