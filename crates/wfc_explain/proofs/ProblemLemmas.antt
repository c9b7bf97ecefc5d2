-- That the problems of the lines kept are pinned problems.
use Rattle.std.proofs.Common.{◌≡◌, Bool, true, false, List, [], length, map, refl, sym, ap, ◌∙◌, Result, Ok, Err, cond}
use Rattle.std.specs.Prelude.{◌||◌, nat_lt}
use Rattle.std.specs.List.{range_with_len}
use Rattle.std.proofs.lemmas.List.{length-map}
use Rattle.wfc_model.specs.Legal.{Pin}
use Rattle.wfc_model.specs.Window.{places}
use Rattle.wfc_outside.specs.Gives.{result_map}
use Rattle.wfc_overlap.specs.Bridge.{window_pair_count}
use Rattle.wfc_overlap.specs.Built as overlap
use Rattle.wfc_overlap.specs.Sample.{Output, window_base_table, is_met, window_meets_pins, problem_of_sample}
use Rattle.wfc_overlap.proofs.CallerLemmas.{sample_problem}
use Rattle.wfc_pattern.specs.Patterns.{PatternsView}
use Rattle.wfc_picture.specs.declared.symbol.Symbol.{Symbol}
use Rattle.wfc_pins.specs.PinView.{PinView}
use Rattle.wfc_pins.specs.declared.fault.BuildFault.{BuildFault}
use Rattle.wfc_pins.specs.declared.fault.BuildFault.TheVariants.{SizeBelowN, TooLarge}
use Rattle.wfc_problem.specs.Network.{Network}
use Rattle.wfc_problem.specs.declared.TheConstants.{MAX_PAIRS}
use Rattle.wfc_tiled.specs.Built as tiled
use Rattle.wfc_tiled.specs.Mask.{MaskView}
use Rattle.wfc_tiled.specs.Tiles as tiles
use Rattle.wfc_tiled.proofs.CallerLemmas.{tiles_problem}
use Rattle.wfc_tileset.specs.Tiles.{TileSetView, variant_total}
use Rattle.wfc_explain.specs.KeptLines.{kept_of}
use Rattle.wfc_explain.specs.Pinned.{IsPinned}
use Rattle.wfc_explain.specs.Problems.{IsSamplePins, IsTilesPins, SamplePins, TilesPins, pinned_sample, pinned_tiles, sample_pins, tiles_pins}
use Rattle.wfc_explain.proofs.KeptLemmas.{as_many, flags_fewer, flat_map_fewer, kept_in_order, kept_pass, map_fewer}

-- ---- a sample

module _ (patterns : PatternsView) (palette : List Symbol) (output : Output) (lines : List PinView) where
  abbrev small : Bool
  small = nat_lt output.width patterns.n || nat_lt output.height patterns.n

  abbrev large : Bool
  large = nat_lt MAX_PAIRS (window_pair_count patterns output)

  abbrev read : List PinView → Result (List Pin) BuildFault
  read some = overlap.picture_pins (overlap.texts_of palette) output.width output.height some

  abbrev found : List Pin → SamplePins
  found pins = record { patterns = patterns; output = output; pins = pins }

  -- what holds where the pins are found
  record AreFound (s : SamplePins) : Type 0 where
    wide : small ≡ false
    few : large ≡ false
    pins_are : read lines ≡ Ok s.pins
    is : s ≡ found s.pins

  are_found : (s : SamplePins) → sample_pins patterns palette output lines ≡ Ok s → AreFound s
  are_found s is = by_case small large (read lines) refl refl refl is
    where
      by_case : (b c : Bool) (r : Result (List Pin) BuildFault) → small ≡ b → large ≡ c → read lines ≡ r
          → result_map found (cond b (Err SizeBelowN) (cond c (Err (TooLarge (window_pair_count patterns output))) r)) ≡ Ok s → AreFound s
      by_case true c r b_is c_is r_is e = cc
      by_case false true r b_is c_is r_is e = cc
      by_case false false (Err fault) b_is c_is r_is e = cc
      by_case false false (Ok pins) b_is c_is r_is e =
          let same : s ≡ found pins = cc in
          record {
            wide = b_is;
            few = c_is;
            pins_are = r_is ∙ ap (λ (t : SamplePins). Ok t.pins) (sym same);
            is = same ∙ ap (λ (t : SamplePins). found t.pins) (sym same);
          }

  -- the problem of the lines that are kept is built
  pub sample_kept : (s : SamplePins) → sample_pins patterns palette output lines ≡ Ok s → (keep : List Bool)
      → overlap.picture_problem patterns palette output (kept_of keep lines) ≡ Ok ((pinned_sample s).problem_of keep)
  sample_kept s is keep =
      let f = are_found s is in
      let kept = kept_in_order (overlap.picture_pin (overlap.texts_of palette) output.width output.height) keep lines s.pins f.pins_are in
      (λ i. result_map (problem_of_sample patterns output) (cond (f.wide i) (Err SizeBelowN) (cond (f.few i) (Err (TooLarge (window_pair_count patterns output))) (kept i))))
      ∙ ap (λ (t : SamplePins). Ok ((pinned_sample t).problem_of keep)) (sym f.is)

  -- there is a pin for each line
  pub sample_as_many : (s : SamplePins) → sample_pins patterns palette output lines ≡ Ok s → length s.pins ≡ length lines
  sample_as_many s is = as_many (overlap.picture_pin (overlap.texts_of palette) output.width output.height) lines s.pins (are_found s is).pins_are

  -- also where they are what a build finds
  pub sample_found : (pins : List Pin) → overlap.checked_picture_pins patterns palette output lines ≡ Ok pins → length pins ≡ length lines
  sample_found pins is = sample_as_many (found pins) (ap (result_map found) is)

-- the problems of a sample with the lines that are kept are pinned
pub sample_is_pinned : (s : SamplePins) → IsSamplePins s → IsPinned (pinned_sample s)
sample_is_pinned s is =
    let pins = s.pins in
    record {
      problem = λ keep long. sample_problem s.patterns s.output (kept_of keep pins) is.patterns_are is.room;
      alike = λ keep other long as_long. refl;
      falls = λ fewer more short long falls.
          flags_fewer (length s.patterns.weights) (window_base_table s.patterns.n s.output s.patterns.windows (kept_of more pins)) (window_base_table s.patterns.n s.output s.patterns.windows (kept_of fewer pins))
          (flat_map_fewer (λ place. map (λ w. window_meets_pins s.patterns.n s.output place w (kept_of more pins)) s.patterns.windows) (λ place. map (λ w. window_meets_pins s.patterns.n s.output place w (kept_of fewer pins)) s.patterns.windows)
          (λ place. length-map s.patterns.windows (λ w. window_meets_pins s.patterns.n s.output place w (kept_of more pins)) ∙ sym (length-map s.patterns.windows (λ w. window_meets_pins s.patterns.n s.output place w (kept_of fewer pins))))
          (λ place. map_fewer (λ w. window_meets_pins s.patterns.n s.output place w (kept_of more pins)) (λ w. window_meets_pins s.patterns.n s.output place w (kept_of fewer pins))
          (λ w. kept_pass (λ pin. is_met s.patterns.n s.output place w pin) fewer more pins (short ∙ sym long) falls) s.patterns.windows)
          (places s.output.width s.output.height s.patterns.n s.output.wrap));
    }

-- parts that share all but the base with the problem without pins
pub sample_shared : (patterns : PatternsView) (output : Output) (kept : List Pin) (parts shared : Network) (base : List Bool) → parts ≡ record shared { base = base }
    → shared ≡ record (problem_of_sample patterns output []) { base = [] } → base ≡ window_base_table patterns.n output patterns.windows kept → parts ≡ problem_of_sample patterns output kept
sample_shared patterns output kept parts shared base parts_are shared_is base_is =
    parts_are ∙ ap (λ (N : Network). record N { base = base }) shared_is ∙ ap (λ b. record (problem_of_sample patterns output []) { base = b }) base_is

-- ---- a tile set

module _ (set : TileSetView) (mask : MaskView) (wrap : Bool) (lines : List PinView) where
  abbrev crowded : Bool
  crowded = nat_lt MAX_PAIRS (tiled.tile_pair_count set mask)

  abbrev placed : List PinView → Result (List Pin) BuildFault
  placed some = tiled.tile_map_pins set.tiles mask some

  abbrev tiling : List Pin → TilesPins
  tiling pins = record { tiles = set; mask = mask; wrap = wrap; pins = pins }

  -- what holds where the pins are found
  record ArePlacedAt (s : TilesPins) : Type 0 where
    few : crowded ≡ false
    pins_are : placed lines ≡ Ok s.pins
    is : s ≡ tiling s.pins

  are_placed : (s : TilesPins) → tiles_pins set mask wrap lines ≡ Ok s → ArePlacedAt s
  are_placed s is = by_case crowded (placed lines) refl refl is
    where
      by_case : (c : Bool) (r : Result (List Pin) BuildFault) → crowded ≡ c → placed lines ≡ r
          → result_map tiling (cond c (Err (TooLarge (tiled.tile_pair_count set mask))) r) ≡ Ok s → ArePlacedAt s
      by_case true r c_is r_is e = cc
      by_case false (Err fault) c_is r_is e = cc
      by_case false (Ok pins) c_is r_is e =
          let same : s ≡ tiling pins = cc in
          record {
            few = c_is;
            pins_are = r_is ∙ ap (λ (t : TilesPins). Ok t.pins) (sym same);
            is = same ∙ ap (λ (t : TilesPins). tiling t.pins) (sym same);
          }

  -- the problem of the lines that are kept is built
  pub tiles_kept : (s : TilesPins) → tiles_pins set mask wrap lines ≡ Ok s → (keep : List Bool)
      → tiled.tile_map_problem set mask wrap (kept_of keep lines) ≡ Ok ((pinned_tiles s).problem_of keep)
  tiles_kept s is keep =
      let f = are_placed s is in
      let kept = kept_in_order (tiled.tile_map_pin set.tiles mask) keep lines s.pins f.pins_are in
      (λ i. result_map (tiles.problem_of_tiles set mask wrap) (cond (f.few i) (Err (TooLarge (tiled.tile_pair_count set mask))) (kept i)))
      ∙ ap (λ (t : TilesPins). Ok ((pinned_tiles t).problem_of keep)) (sym f.is)

  -- there is a pin for each line
  pub tiles_as_many : (s : TilesPins) → tiles_pins set mask wrap lines ≡ Ok s → length s.pins ≡ length lines
  tiles_as_many s is = as_many (tiled.tile_map_pin set.tiles mask) lines s.pins (are_placed s is).pins_are

  -- also where they are what a build finds
  pub tiles_found : (pins : List Pin) → tiled.checked_tile_map_pins set mask lines ≡ Ok pins → length pins ≡ length lines
  tiles_found pins is = tiles_as_many (tiling pins) (ap (result_map tiling) is)

  -- a mask with too many pairs has no pins
  pub crowded_fault : (fault : BuildFault) → tiled.roomy_mask set mask ≡ Err fault → tiles_pins set mask wrap lines ≡ Err fault
  crowded_fault fault is = by_case crowded refl is
    where
      by_case : (c : Bool) → crowded ≡ c → cond c (Err (TooLarge (tiled.tile_pair_count set mask))) (Ok mask) ≡ Err fault → tiles_pins set mask wrap lines ≡ Err fault
      by_case true c_is e = ap (λ b. result_map tiling (cond b (Err (TooLarge (tiled.tile_pair_count set mask))) (placed lines))) c_is ∙ again (TooLarge (tiled.tile_pair_count set mask)) e
        where
          again : (f : BuildFault) → ◌≡◌ {A = Result MaskView BuildFault} (Err f) (Err fault) → ◌≡◌ {A = Result TilesPins BuildFault} (Err f) (Err fault)
          again f same = let inner : f ≡ fault = cc in ap Err inner
      by_case false c_is e = cc

-- the problems of a tile set with the lines that are kept are pinned
pub tiles_are_pinned : (s : TilesPins) → IsTilesPins s → IsPinned (pinned_tiles s)
tiles_are_pinned s is =
    let pins = s.pins in
    let count = variant_total s.tiles.tiles in
    let width = s.mask.width in
    record {
      problem = λ keep long. tiles_problem s.tiles s.mask s.wrap (kept_of keep pins) is.tiles_are is.mask_is is.few_pairs;
      alike = λ keep other long as_long. refl;
      falls = λ fewer more short long falls.
          flags_fewer (length (tiles.variant_weights s.tiles.tiles)) (tiles.tile_base_table s.tiles s.mask (kept_of more pins)) (tiles.tile_base_table s.tiles s.mask (kept_of fewer pins))
          (flat_map_fewer (λ n. tiles.base_row s.tiles width (kept_of more pins) n) (λ n. tiles.base_row s.tiles width (kept_of fewer pins) n)
          (λ n. length-map (range_with_len 0 count) (λ v. tiles.variant_meets_pins width (kept_of more pins) n v) ∙ sym (length-map (range_with_len 0 count) (λ v. tiles.variant_meets_pins width (kept_of fewer pins) n v)))
          (λ n. map_fewer (λ v. tiles.variant_meets_pins width (kept_of more pins) n v) (λ v. tiles.variant_meets_pins width (kept_of fewer pins) n v)
          (λ v. kept_pass (λ pin. tiles.variant_suits_at width n v pin) fewer more pins (short ∙ sym long) falls) (range_with_len 0 count))
          s.mask.places);
    }

-- parts that share all but the base with the problem without pins
pub tiles_shared : (set : TileSetView) (mask : MaskView) (wrap : Bool) (kept : List Pin) (parts shared : Network) (base : List Bool) → parts ≡ record shared { base = base }
    → shared ≡ record (tiles.problem_of_tiles set mask wrap []) { base = [] } → base ≡ tiles.tile_base_table set mask kept → parts ≡ tiles.problem_of_tiles set mask wrap kept
tiles_shared set mask wrap kept parts shared base parts_are shared_is base_is =
    parts_are ∙ ap (λ (N : Network). record N { base = base }) shared_is ∙ ap (λ b. record (tiles.problem_of_tiles set mask wrap []) { base = b }) base_is
