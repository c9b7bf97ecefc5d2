-- What holds of the problem of a tile set.
use Rattle.std.proofs.Common.{Bool, Err, List, None, Ok, Option, Result, Some, [], ap, arith, false, if◌then◌else◌, inl, inr, length, nat_lt, position, refl, subst, sym, true, ℕ, ◌&&◌, ◌*◌, ◌<◌, ◌∷◌, ◌≡◌, ◌≤◌}
use Rattle.std.proofs.lemmas.Bool.{eqb-true}
use Rattle.std.proofs.lemmas.Bool.Decides.{nat_tests}
use Rattle.std.proofs.lemmas.List.Elements.{All-cons, All-nil}
use Rattle.std.specs.Option.{ok_or, option_map}
use Rattle.std.specs.Prelude.{is_some, ◌==◌}
use Rattle.wfc_grid.specs.Grid.{GridView}
use Rattle.wfc_model.specs.Legal.{Pin}
use Rattle.wfc_outside.specs.Folder.{File}
use Rattle.wfc_outside.specs.Gives.{Gives, result_map}
use Rattle.wfc_overlap.specs.Built.{marked_pin}
use Rattle.wfc_overlap.specs.Sample.{place_number}
use Rattle.wfc_pins.specs.InOrder.{and_rest}
use Rattle.wfc_pins.specs.PinView.{PinView}
use Rattle.wfc_pins.specs.declared.fault.BuildFault.{BuildFault}
use Rattle.wfc_pins.specs.declared.fault.BuildFault.TheVariants.{NoMemory, PinInHole, PinOutside, TooLarge, UnknownSymbol}
use Rattle.wfc_problem.specs.Network.{Network}
use Rattle.wfc_problem.specs.declared.TheConstants.{MAX_PAIRS}
use Rattle.wfc_task.specs.Asked.{IsOutputAsked}
use Rattle.wfc_task.specs.TileGiven.{HoldsMask}
use Rattle.wfc_task.specs.Tiling.{HasSides, IsTilingTask}
use Rattle.wfc_tiled.proofs.MaskLemmas.{kept_is, plain_is, there}
use Rattle.wfc_tiled.specs.Built.{tile_map_problem, tile_pair_count, tile_map_pin, tile_map_pins}
use Rattle.wfc_tiled.specs.Maps.{ArePlaced, IsPlaced}
use Rattle.wfc_tiled.specs.Mask.{IsMask, MaskView, cell_number, is_no_mask_byte, mask_from, mask_of, places_of}
use Rattle.wfc_tiled.specs.Tiles.{problem_of_tiles}
use Rattle.wfc_tiled.specs.declared.reading.MaskFault.TheVariants.{SizeDiffers}
use Rattle.wfc_tileset.specs.Tiles.{TileSetView, TileView, variant_of}
use Rattle.wfc_words.specs.RequestView.{RequestView}

-- the pin that a line means stands at a place that is no hole
pin_placed : (tiles : List TileView) (mask : MaskView) (line : PinView) (pin : Pin) → tile_map_pin tiles mask line ≡ Ok pin → IsPlaced mask pin
pin_placed tiles mask line pin is =
    by_tests (nat_lt line.x mask.width) (nat_lt line.y mask.height) (cell_number mask (place_number mask.width line.x line.y)) (variant_of tiles line.symbol) refl refl refl is
  where
    by_tests : (wide high : Bool) (cell variant : Option ℕ) → nat_lt line.x mask.width ≡ wide → nat_lt line.y mask.height ≡ high → cell_number mask (place_number mask.width line.x line.y) ≡ cell
        → (if wide && high then (if is_some cell then ok_or (option_map (marked_pin line) variant) (UnknownSymbol line.line) else Err (PinInHole line.line)) else Err (PinOutside line.line)) ≡ Ok pin
        → IsPlaced mask pin
    by_tests true true (Some cell) (Some variant) w h c is =
        let same : marked_pin line variant ≡ pin = cc in
        subst (IsPlaced mask) same (record { column_in = grind (arith, nat_tests, w); row_in = grind (arith, nat_tests, h); place = there mask.places (place_number mask.width line.x line.y) cell c })
    by_tests true true (Some cell) None w h c is = absurd (cc)
    by_tests true true None variant w h c is = absurd (cc)
    by_tests true false cell variant w h c is = absurd (cc)
    by_tests false high cell variant w h c is = absurd (cc)

-- so do those of all lines
pub pins_placed : (tiles : List TileView) (mask : MaskView) (lines : List PinView) (pins : List Pin) → tile_map_pins tiles mask lines ≡ Ok pins → ArePlaced mask pins
pins_placed tiles mask [] pins is = let same : [] ≡ pins = cc in subst (ArePlaced mask) same (All-nil (IsPlaced mask))
pins_placed tiles mask (line ∷ lines) pins is = by_first (tile_map_pin tiles mask line) (tile_map_pins tiles mask lines) (pin_placed tiles mask line) (pins_placed tiles mask lines) is
  where
    by_first : (first : Result Pin BuildFault) (rest : Result (List Pin) BuildFault) → ((pin : Pin) → first ≡ Ok pin → IsPlaced mask pin) → ((pins : List Pin) → rest ≡ Ok pins → ArePlaced mask pins)
        → and_rest first rest ≡ Ok pins → ArePlaced mask pins
    by_first (Err fault) rest head tail is = absurd (cc)
    by_first (Ok pin) (Err fault) head tail is = absurd (cc)
    by_first (Ok pin) (Ok more) head tail is = let same : (pin ∷ more) ≡ pins = cc in subst (ArePlaced mask) same (All-cons (IsPlaced mask) pin more (head pin refl) (tail more refl))

-- the problem that was built, where one was
pub tiles_built_is : (set : TileSetView) (mask : MaskView) (wrap : Bool) (lines : List PinView) (P : Network) → tile_map_problem set mask wrap lines ≡ Ok P
    → (tile_pair_count set mask ≤ MAX_PAIRS) × ((pins : List Pin) × (tile_map_pins set.tiles mask lines ≡ Ok pins) × (P ≡ problem_of_tiles set mask wrap pins))
tiles_built_is set mask wrap lines P is = by_tests (nat_lt MAX_PAIRS (tile_pair_count set mask)) (tile_map_pins set.tiles mask lines) refl refl is
  where
    by_tests : (many : Bool) (pins : Result (List Pin) BuildFault) → nat_lt MAX_PAIRS (tile_pair_count set mask) ≡ many → tile_map_pins set.tiles mask lines ≡ pins
        → result_map (problem_of_tiles set mask wrap) (if many then Err (TooLarge (tile_pair_count set mask)) else pins) ≡ Ok P
        → (tile_pair_count set mask ≤ MAX_PAIRS) × ((pins : List Pin) × (tile_map_pins set.tiles mask lines ≡ Ok pins) × (P ≡ problem_of_tiles set mask wrap pins))
    by_tests true pins p q is = absurd (cc)
    by_tests false (Err fault) p q is = absurd (cc)
    by_tests false (Ok pins) p q is = (grind (arith, nat_tests, p), (pins, q, cc))

-- the problem that is answered
pub tiled_result : (asked : RequestView) (set : TileSetView) (mask : MaskView) (lines : List PinView) (P : Network) → HasSides asked mask
    → Gives NoMemory (λ problem. problem) (let made : Result Network BuildFault = Ok P in made) (tile_map_problem set mask asked.wrap_out lines) → IsTilingTask asked set mask P
tiled_result asked set mask lines P sides (inr short) = absurd (cc (short))
tiled_result asked set mask lines P sides (inl is) =
    let made = tiles_built_is set mask asked.wrap_out lines P (sym is) in
    record { same_width = sides.same_width; same_height = sides.same_height; pins = made.1.0; placed = pins_placed set.tiles mask lines made.1.0 made.1.1; problem = made.1.2 }

-- the dots of a grid, as a mask
abbrev dots : GridView → MaskView
dots grid = record { width = grid.width; height = grid.height; places = places_of grid.bytes }

-- a grid that spells a mask has the sides asked for and a dot, and its dots are the mask
mask_parts : (grid : GridView) (w h : ℕ) (mask : MaskView) → mask_of grid w h ≡ Ok mask → (grid.width ≡ w) × (grid.height ≡ h) × (0 < length (places_of grid.bytes)) × (dots grid ≡ mask)
mask_parts grid w h mask is = by_sides (grid.width == w) (grid.height == h) refl refl is
  where
    by_places : (other : Option ℕ) (places : List ℕ) → places_of grid.bytes ≡ places → mask_from grid other places ≡ Ok mask → (0 < length (places_of grid.bytes)) × (dots grid ≡ mask)
    by_places (Some at) places kept is = absurd (cc)
    by_places None [] kept is = absurd (cc)
    by_places None (p ∷ ps) kept is =
        let same : record { width = grid.width; height = grid.height; places = p ∷ ps } ≡ mask = cc in
        (omega (arith, ap length kept), subst (λ xs. record { width = grid.width; height = grid.height; places = xs } ≡ mask) (sym kept) same)

    by_sides : (a b : Bool) → (grid.width == w) ≡ a → (grid.height == h) ≡ b
        → (if a && b then mask_from grid (position is_no_mask_byte grid.bytes) (places_of grid.bytes) else Err (SizeDiffers grid.width grid.height)) ≡ Ok mask
        → (grid.width ≡ w) × (grid.height ≡ h) × (0 < length (places_of grid.bytes)) × (dots grid ≡ mask)
    by_sides true true ws hs is =
        let parts = by_places (position is_no_mask_byte grid.bytes) (places_of grid.bytes) refl is in
        (eqb-true grid.width w ws, eqb-true grid.height h hs, parts.0, parts.1)
    by_sides true false ws hs is = absurd (cc)
    by_sides false b ws hs is = absurd (cc)

-- the mask that a grid spells is one
pub read_mask : (grid : GridView) (w h : ℕ) (mask : MaskView) → 0 < w → 0 < h → w ≤ 4096 → h ≤ 4096 → length grid.bytes ≡ grid.width * grid.height → mask_of grid w h ≡ Ok mask → IsMask mask
read_mask grid w h mask some_w some_h wide high whole is =
    let parts = mask_parts grid w h mask is in
    let same_w : grid.width ≡ w = parts.0 in
    let same_h : grid.height ≡ h = parts.1 in
    subst IsMask parts.3
    (kept_is grid.width grid.height grid.bytes (omega (arith, same_w, some_w)) (omega (arith, same_h, some_h)) (omega (arith, same_w, wide)) (omega (arith, same_h, high)) whole parts.2)

-- the mask of a request is one
pub held_mask : (asked : RequestView) (files : List File) (name : Option (List ℕ)) (mask : MaskView) → IsOutputAsked asked → HoldsMask asked files name mask → IsMask mask
held_mask asked files None mask output holds = subst IsMask holds (plain_is asked.width asked.height output.some_width output.some_height output.width_limit output.height_limit)
held_mask asked files (Some name) mask output holds =
    read_mask holds.grid asked.width asked.height mask output.some_width output.some_height output.width_limit output.height_limit holds.spelled.grid.filled.as_many holds.is_mask
