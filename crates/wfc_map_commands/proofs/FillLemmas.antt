-- What `fill` has to know before it paints and writes a map.
use Rattle.std.proofs.Common.{Bool, List, None, Option, Some, [], ap, arith, get_or, inl, inr, length, map, refl, subst, sym, ℕ, ◌*◌, ◌<◌, ◌∙◌, ◌≡◌, ◌⊎◌}
use Rattle.std.proofs.lemmas.Bool.{cases_lt}
use Rattle.std.proofs.lemmas.List.{get_or_default, get_or_past}
use Rattle.std.proofs.lemmas.List.Elements.{All-map}
use Rattle.std.proofs.lemmas.List.FromFn.{length-map-range_with_len, length-range_with_len}
use Rattle.std.specs.List.{range_with_len}
use Rattle.std.specs.Prelude.{All, IsTrue, slice_index}
use Rattle.wfc_map_commands.specs.Filling.{IsFilling, IsTileFilling}
use Rattle.wfc_map_commands.specs.declared.filling.Filling.{Filling}
use Rattle.wfc_map_commands.specs.declared.filling.TileFilling.{TileFilling}
use Rattle.wfc_model.specs.Legal.{Pin}
use Rattle.wfc_model.specs.Raster.{IsFilled, IsSized, Raster, numbers_of}
use Rattle.wfc_model.specs.Window.{places}
use Rattle.wfc_overlap.specs.Bridge.{picture_of, pixel_of}
use Rattle.wfc_overlap.specs.Sample.{Output, problem_of_sample}
use Rattle.wfc_pattern.specs.Patterns.{IsPatterns, PatternsView, window_at}
use Rattle.wfc_picture.specs.declared.symbol.Kind.{Kind}
use Rattle.wfc_picture.specs.declared.symbol.Kind.TheVariants as kinds
use Rattle.wfc_plan.proofs.CallerLemmas.{unrefused}
use Rattle.wfc_plan.specs.declared.fault.Refusal.TheVariants.{Render}
use Rattle.wfc_problem.proofs.CallerLemmas.{base_inside}
use Rattle.wfc_problem.specs.Assignment.{IsLegalAssignment}
use Rattle.wfc_problem.specs.Network.{IsProblem, Network, values}
use Rattle.wfc_render.proofs.CallerLemmas.{written_tiles}
use Rattle.wfc_render.specs.Layout.{layout_of}
use Rattle.wfc_render.specs.Map.{IsWritten, is_of_kind}
use Rattle.wfc_render.specs.Tiled.{IsTiled, IsVariantOrHole}
use Rattle.wfc_render.specs.declared.form.Layout.{Layout}
use Rattle.wfc_task.proofs.CallerLemmas.{IsLaidOut, each_joined, laid_out}
use Rattle.wfc_task.specs.Asked.{IsOutputAsked}
use Rattle.wfc_task.specs.Maps.{asked_output}
use Rattle.wfc_task.specs.Tiling.{mask_or_whole}
use Rattle.wfc_tiled.specs.Maps.{number_of_cell, numbers_of_cells, tile_map}
use Rattle.wfc_tiled.specs.Mask.{MaskView, cell_number, plain_mask}
use Rattle.wfc_tiled.specs.Tiles.{problem_of_tiles}
use Rattle.wfc_tileset.specs.Pictures.{IsPictured, kind_of, picture_name, side_of}
use Rattle.wfc_tileset.specs.Tiles.{TileSetView, tile_at, variant_at, variant_total}
use Rattle.wfc_words.specs.RequestView.{RequestView}

-- ---- numbers below a limit

-- an entry of a list of small numbers is small, and so is 0 where there is none
small_entry : (limit : ℕ) (w : List ℕ) (i : ℕ) → 0 < limit → All (λ n. n < limit) w → slice_index w i < limit
small_entry limit w i some small = elim (cases_lt i (length w)) [
  | inl inside ↦ small i 0 inside
  | inr past ↦ subst (λ n. n < limit) (sym (get_or_past w i 0 past)) some
]

-- a window of patterns with small numbers
small_window : (limit : ℕ) (patterns : PatternsView) (p : ℕ) → All (λ window. All (λ n. n < limit) window) patterns.windows → All (λ n. n < limit) (window_at patterns p)
small_window limit patterns p small = elim (cases_lt p (length patterns.windows)) [
  | inl inside ↦ small p [] inside
  | inr past ↦ subst (λ (w : List ℕ). All (λ n. n < limit) w) (sym (get_or_past patterns.windows p [] past)) (λ k d inside. absurd (omega arith))
]

-- the numbers of a painted picture are those of its windows
painted_small : (limit : ℕ) (patterns : PatternsView) (output : Output) (a : List ℕ) → 0 < limit → All (λ window. All (λ n. n < limit) window) patterns.windows
    → All (λ n. n < limit) (numbers_of (picture_of patterns output a))
painted_small limit patterns output a some small =
    each_joined (λ n. n < limit) (λ y. map (λ x. pixel_of patterns output a x y) (range_with_len 0 output.width))
    (λ y. All-map (λ n. n < limit) (λ x. pixel_of patterns output a x y) (range_with_len 0 output.width) (λ k d inside.
    small_entry limit (window_at patterns _) _ some (small_window limit patterns _ small)))
    (range_with_len 0 output.height)

-- ---- the picture

-- a painted picture has the sides of its output
painted_sized : (patterns : PatternsView) (output : Output) (a : List ℕ) → 0 < output.width → 0 < output.height → IsSized (picture_of patterns output a) output.width output.height
painted_sized patterns output a wide high =
    let row : ℕ → List ℕ = λ y. map (λ x. pixel_of patterns output a x y) (range_with_len 0 output.width) in
    let rows : length (map row (range_with_len 0 output.height)) ≡ output.height = length-map-range_with_len row 0 output.height in
    record {
      raster = record {
        some_column = wide;
        some_row = omega (arith, rows, high);
        rows_fit = All-map (λ (row : List ℕ). length row ≡ output.width) row (range_with_len 0 output.height) (λ k d inside. length-map-range_with_len (λ x. pixel_of patterns output a x (get_or (range_with_len 0 output.height) k d)) 0 output.width);
      };
      same_width = refl;
      same_height = rows;
    }

-- the picture of an assignment can be written
pub picture_written : (asked : RequestView) (task : Filling) (a : List ℕ) (m : Raster) → IsOutputAsked asked → IsFilling asked task → m ≡ picture_of task.patterns (asked_output asked) a
    → IsWritten task.layout task.palette m
picture_written asked task a m output filling is =
    let laid : IsLaidOut filling.kind asked.width asked.height 1 task.layout
    = laid_out filling.kind asked.form asked.width asked.height 1 task.layout (unrefused Render (layout_of filling.kind asked.form asked.width asked.height 1) task.layout filling.layout) in
    subst (λ m. IsWritten task.layout task.palette m) (sym is) (record {
      answered = laid.layout;
      pixels = laid.side_is;
      kind = subst (λ k. All (λ symbol. IsTrue (is_of_kind k symbol)) task.palette) (sym laid.same_kind) filling.shown.symbols;
      some_symbol = filling.shown.some_symbol;
      sized =
          subst (λ w. IsSized (picture_of task.patterns (asked_output asked) a) w task.layout.height) (sym laid.width_is)
          (subst (λ h. IsSized (picture_of task.patterns (asked_output asked) a) asked.width h) (sym laid.height_is)
          (painted_sized task.patterns (asked_output asked) a output.some_width output.some_height));
      numbers = painted_small (length task.palette) task.patterns (asked_output asked) a filling.shown.some_symbol filling.numbers;
    })

-- ---- the assignment

-- a legal assignment has a value for each place
pub each_place : (patterns : PatternsView) (output : Output) (pins : List Pin) (P : Network) (a : List ℕ) → P ≡ problem_of_sample patterns output pins → IsLegalAssignment P a
    → length a ≡ length (places output.width output.height patterns.n output.wrap)
each_place patterns output pins P a is legal = legal.each_cell ∙ ap (λ (P : Network). P.cells) is

-- which is the number of a pattern
pub each_pattern : (patterns : PatternsView) (output : Output) (pins : List Pin) (P : Network) (a : List ℕ) → IsPatterns patterns → IsProblem P → P ≡ problem_of_sample patterns output pins → IsLegalAssignment P a
    → All (λ v. v < length patterns.windows) a
each_pattern patterns output pins P a taught problem is legal k d inside =
    let cell_in : k < P.cells = omega (arith, inside, legal.each_cell) in
    let value_in : slice_index a k < values P = (base_inside P problem k (slice_index a k) (legal.based k cell_in)).1 in
    let many : values P ≡ length patterns.windows = ap (λ (P : Network). values P) is ∙ taught.weighed in
    let same : get_or a k d ≡ slice_index a k = get_or_default a k d 0 inside in
    omega (arith, same, value_in, many)

-- ---- a map of tiles

-- its numbers are those of variants and of holes
cells_placed : (set : TileSetView) (mask : MaskView) (a : List ℕ) → 0 < variant_total set.tiles → All (λ v. v < variant_total set.tiles) a → All (IsVariantOrHole set) (numbers_of_cells mask a)
cells_placed set mask a some small =
    All-map (IsVariantOrHole set) (λ n. number_of_cell a (cell_number mask n)) (range_with_len 0 (mask.width * mask.height))
    (λ k d inside. by_cell (cell_number mask (get_or (range_with_len 0 (mask.width * mask.height)) k d)))
  where
    by_cell : (cell : Option ℕ) → IsVariantOrHole set (number_of_cell a cell)
    by_cell None = inr refl
    by_cell (Some cell) = inl (small_entry (variant_total set.tiles) a cell some small)

-- how many variants the problem of a tile set has
variants_are : (set : TileSetView) (mask : MaskView) (wrap : Bool) (pins : List Pin) (P : Network) → P ≡ problem_of_tiles set mask wrap pins → values P ≡ variant_total set.tiles
variants_are set mask wrap pins P is =
    ap (λ (P : Network). values P) is ∙ length-map-range_with_len (λ v. (tile_at set.tiles (variant_at set.tiles v).0).weight) 0 (variant_total set.tiles)

-- a legal assignment has a variant for each place that is no hole
pub each_tile : (set : TileSetView) (mask : MaskView) (wrap : Bool) (pins : List Pin) (P : Network) (a : List ℕ) → P ≡ problem_of_tiles set mask wrap pins → IsLegalAssignment P a → length a ≡ length mask.places
each_tile set mask wrap pins P a is legal = legal.each_cell ∙ ap (λ (P : Network). P.cells) is

-- without a mask for each place
pub each_plain_tile : (asked : RequestView) (a : List ℕ) → length a ≡ length (plain_mask asked.width asked.height).places → length a ≡ asked.width * asked.height
each_plain_tile asked a many = many ∙ length-range_with_len 0 (asked.width * asked.height)

each_variant : (P : Network) (count : ℕ) (a : List ℕ) → IsProblem P → values P ≡ count → IsLegalAssignment P a → All (λ v. v < count) a
each_variant P count a problem many legal k d inside =
    let cell_in : k < P.cells = omega (arith, inside, legal.each_cell) in
    let value_in : slice_index a k < values P = (base_inside P problem k (slice_index a k) (legal.based k cell_in)).1 in
    let same : get_or a k d ≡ slice_index a k = get_or_default a k d 0 inside in
    omega (arith, same, value_in, many)

-- a layout whose kind is that of the pictures, all of which are taken
all_pictured : (set : TileSetView) (l : Layout) (kind : Kind) → l.kind ≡ kind_of set.pictures → kind ≡ kind_of set.pictures → (kind ≡ kinds.Plain) ⊎ IsPictured set → (l.kind ≡ kinds.Plain) ⊎ IsPictured set
all_pictured set l kind same is (inl plain) = inl (same ∙ sym is ∙ plain)
all_pictured set l kind same is (inr pictured) = inr pictured

-- the map of an assignment can be written
pub tiles_written : (asked : RequestView) (task : TileFilling) (kind : Kind) (a : List ℕ) (m : Raster) → IsOutputAsked asked → IsTileFilling asked task → IsProblem task.problem → kind ≡ kind_of task.tiles.pictures
    → (picture_name task.tiles (length task.tiles.pictures) ≡ None → (kind ≡ kinds.Plain) ⊎ IsPictured task.tiles) → IsLegalAssignment task.problem a → m ≡ tile_map (mask_or_whole asked task.mask) a
    → IsTiled task.layout task.tiles m
tiles_written asked task kind a m output filling problem kind_is complete legal is =
    let set = task.tiles in
    let mask = mask_or_whole asked task.mask in
    let tiled = filling.tiled in
    let laid = laid_out (kind_of set.pictures) asked.form asked.width asked.height (side_of set.pictures) task.layout
    (unrefused Render (layout_of (kind_of set.pictures) asked.form asked.width asked.height (side_of set.pictures)) task.layout filling.layout) in
    let filled : IsFilled mask.width mask.height (numbers_of_cells mask a) = record {
      some_column = omega (arith, output.some_width, tiled.same_width);
      some_row = omega (arith, output.some_height, tiled.same_height);
      as_many = length-map-range_with_len (λ n. number_of_cell a (cell_number mask n)) 0 (mask.width * mask.height);
    } in
    let many = variants_are set mask asked.wrap_out tiled.pins task.problem tiled.problem in
    let some : 0 < variant_total set.tiles = omega (arith, problem.sized.some_value, many) in
    subst (λ m. IsTiled task.layout set m) (sym is)
    (written_tiles set mask.width mask.height (numbers_of_cells mask a) task.layout filled (omega (arith, output.width_limit, tiled.same_width)) (omega (arith, output.height_limit, tiled.same_height))
    (cells_placed set mask a some (each_variant task.problem (variant_total set.tiles) a problem many legal)) laid.layout laid.same_kind (laid.width_is ∙ sym tiled.same_width) (laid.height_is ∙ sym tiled.same_height)
    (all_pictured set task.layout kind laid.same_kind kind_is (complete filling.pictured)))
