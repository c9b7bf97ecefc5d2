-- What growing answers: a fault, or how growth ended.
use Rattle.std.specs.Prelude.{◌≡◌, ℕ, ◌||◌, nat_lt, List, Result, Ok, Err, if◌then◌else◌}
use Rattle.wfc_choose.specs.Pick.{Rule}
use Rattle.wfc_model.specs.Legal.{Pin}
use Rattle.wfc_outside.specs.Gives.{Gives, result_map}
use Rattle.wfc_pattern.specs.Patterns.{PatternsView}
use Rattle.wfc_picture.specs.declared.symbol.Symbol.{Symbol}
use Rattle.wfc_pins.specs.PinView.{PinView}
use Rattle.wfc_pins.specs.declared.fault.BuildFault.{BuildFault}
use Rattle.wfc_pins.specs.declared.fault.BuildFault.TheVariants as build
use Rattle.wfc_problem.specs.declared.TheConstants.{MAX_PAIRS}
use Rattle.wfc_overlap.specs.Bridge.{window_pair_count}
use Rattle.wfc_overlap.specs.Built.{picture_pins, texts_of}
use Rattle.wfc_runs.specs.Alike.{HaveRule}
use Rattle.wfc_blocks.specs.Blocks.{Area, block_at, block_count, output_of_block}
use Rattle.wfc_blocks.specs.Canvas.{Canvas, canvas_picture, lines_of_block}
use Rattle.wfc_blocks.specs.Covers.{area_of}
use Rattle.wfc_blocks.specs.Growth.{Growth, Terms, full, growth_of, spent, stopped}
use Rattle.wfc_blocks.specs.StuckView.{StuckView}
use Rattle.wfc_blocks.specs.declared.TheConstants.{MAX_BLOCKS}
use Rattle.wfc_blocks.specs.declared.block.Block.{Block}
use Rattle.wfc_blocks.specs.declared.cover.Cover.{Cover}
use Rattle.wfc_blocks.specs.declared.grown.Grown.{Grown}
use Rattle.wfc_blocks.specs.declared.grown.Grown.TheVariants as grown
use Rattle.wfc_blocks.specs.declared.grown.GrowFault.{GrowFault}
use Rattle.wfc_blocks.specs.declared.grown.GrowFault.TheVariants as fault

-- the fault of a line, as growing answers it; a pin in a hole is one outside
abbrev pub grow_fault : BuildFault → GrowFault
grow_fault build.SizeBelowN = fault.SizeBelowN
grow_fault (build.PinOutside line) = fault.PinOutside line
grow_fault (build.UnknownSymbol line) = fault.UnknownSymbol line
grow_fault (build.TooLarge product) = fault.TooLarge product
grow_fault build.NoMemory = fault.NoMemory
grow_fault (build.PinInHole line) = fault.PinOutside line

-- an answer, or the fault of a line
abbrev pub or_grow_fault : {X : Type 0} → Result X BuildFault → Result X GrowFault
or_grow_fault (Ok x) = Ok x
or_grow_fault (Err f) = Err (grow_fault f)

-- the end of growth: the picture of all that is set, or a block with the lines of its pins
abbrev pub shown_growth : List (List ℕ) → List PinView → Area → Growth → Grown
shown_growth texts lines area (full canvas) = grown.Map (canvas_picture area canvas)
shown_growth texts lines area (stopped block canvas) =
    grown.Stuck (record { block = block; pins = lines_of_block texts lines canvas block })
shown_growth texts lines area spent = grown.Spent

-- the terms of growth by these pins
abbrev pub terms_with : PatternsView → Rule → ℕ → ℕ → List Pin → Terms
terms_with patterns rule budget seed pins =
    record { patterns = patterns; pins = pins; rule = rule; budget = budget; seed = seed }

-- how growth of an area by these pins ends: its picture, or the block at which it stopped, with its lines
abbrev pub shown_by_pins
    : PatternsView → List Symbol → Area → List PinView → Rule → ℕ → ℕ → List Pin → Grown
shown_by_pins patterns palette area lines rule budget seed pins =
    shown_growth (texts_of palette) lines area
    (growth_of area (terms_with patterns rule budget seed pins))

-- the pins by which an area is grown, but for a side below that of a window, for too many blocks, for too
-- many pairs in the first block, and for a line at fault
abbrev pub growable_of
    : PatternsView → List Symbol → Area → List PinView → Result (List Pin) GrowFault
growable_of patterns palette area lines =
    let count = block_count patterns.n area in
    let product = window_pair_count patterns (output_of_block (block_at patterns.n area 0)) in
    if nat_lt area.width patterns.n || nat_lt area.height patterns.n then Err fault.SizeBelowN
    else (if nat_lt MAX_BLOCKS count then Err (fault.TooManyBlocks count)
    else (if nat_lt MAX_PAIRS product then Err (fault.TooLarge product)
    else or_grow_fault (picture_pins (texts_of palette) area.width area.height lines)))

-- how growth of an area ends by the lines of a pins file, but for a side below that of a window, for
-- too many blocks, for too many pairs in the first block, and for a line at fault
abbrev pub grown_of
    : PatternsView → List Symbol → Area → List PinView → Rule → ℕ → ℕ → Result Grown GrowFault
grown_of patterns palette area lines rule budget seed =
    let count = block_count patterns.n area in
    let product = window_pair_count patterns (output_of_block (block_at patterns.n area 0)) in
    if nat_lt area.width patterns.n || nat_lt area.height patterns.n then Err fault.SizeBelowN
    else (if nat_lt MAX_BLOCKS count then Err (fault.TooManyBlocks count)
    else (if nat_lt MAX_PAIRS product then Err (fault.TooLarge product)
    else result_map
    (λ pins. shown_growth (texts_of palette) lines area
    (growth_of area (terms_with patterns rule budget seed pins)))
    (or_grow_fault (picture_pins (texts_of palette) area.width area.height lines))))

-- a block that is stuck, with the lines of its pins
abbrev pub stuck_in : List (List ℕ) → List PinView → Canvas → Block → StuckView
stuck_in texts lines canvas block = record { block = block; pins = lines_of_block texts lines canvas block }

-- growth by the lines of a pins file is the first refusal of them and of the area, or its end by the pins that they mean
abbrev pub GoesByRefusals : PatternsView → List Symbol → Area → List PinView → Rule → Type 0
GoesByRefusals patterns palette area lines rule =
    (budget seed : ℕ)
    → grown_of patterns palette area lines rule budget seed
    ≡ result_map (λ pins. shown_by_pins patterns palette area lines rule budget seed pins)
    (growable_of patterns palette area lines)

-- by a rule as which all of these pick, the answer is what growth comes to, or memory ran out
abbrev pub AnswersGrowth : List Rule → PatternsView → List Symbol → Area → List PinView → ℕ → ℕ → Result Grown GrowFault → Type 0
AnswersGrowth rules patterns palette area lines budget seed result =
    (rule : Rule) → HaveRule rules rule
    → Gives fault.NoMemory (λ grown. grown) result (grown_of patterns palette area lines rule budget seed)

-- this is how growth over the blocks of a cover by these pins ends
abbrev pub IsShownBy : PatternsView → List Symbol → Cover → List PinView → Rule → ℕ → ℕ → List Pin → Grown → Type 0
IsShownBy patterns palette cover lines rule budget seed pins grown =
    grown ≡ shown_by_pins patterns palette (area_of cover) lines rule budget seed pins
