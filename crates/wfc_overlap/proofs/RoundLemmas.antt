-- A legal picture is that of its windows' numbers, and a legal assignment the numbers of its picture's windows.
use Rattle.std.proofs.Common.{◌≡◌, ℕ, ◌+◌, ◌-◌, ◌/◌, ◌%◌, ◌<◌, List, [], length, get_or, map, refl, sym, ap, ◌∙◌, arith, zero-add}
use Rattle.std.specs.Prelude.{nat_eq}
use Rattle.std.specs.List.{range_with_len}
use Rattle.std.proofs.lemmas.Bool.{false_from_ne_true}
use Rattle.std.proofs.lemmas.List.{ext_get_or, length-map}
use Rattle.std.proofs.lemmas.List.Sums.{position_or_len_is}
use Rattle.std.proofs.lemmas.List.FromFn.{length-map-range_with_len, get_or-map-range_with_len}
use Rattle.wfc_model.specs.Raster.{Raster, height_of, number_at, IsSized}
use Rattle.wfc_model.specs.Image.{cell_at}
use Rattle.wfc_model.specs.Window.{window, places, starts}
use Rattle.std.specs.Cmp.Lexicographic.{pointwise}
use Rattle.wfc_model.specs.Legal.{Pin, Rules, IsLegalPicture}
use Rattle.wfc_model.proofs.CallerLemmas.{same_window-Decides}
use Rattle.wfc_model.proofs.CallerLemmas.{square-at}
use Rattle.wfc_pattern.specs.Patterns.{PatternsView, AreDifferent, IsPatterns, window_at}
use Rattle.wfc_problem.specs.Assignment.{IsLegalAssignment}
use Rattle.wfc_places.specs.Steps.{place_number}
use Rattle.wfc_overlap.specs.Sample.{Output, problem_of_sample}
use Rattle.wfc_overlap.specs.Bridge.{IsRoom, IsTaughtBy, nearest, pattern_number, numbers_of_windows, pixel_of, picture_of}
use Rattle.wfc_places.proofs.CallerLemmas.{mod_low}
use Rattle.wfc_overlap.proofs.SampleLemmas.{cell_place}
use Rattle.wfc_overlap.proofs.ThereLemmas.{number-at, number-is}
use Rattle.wfc_overlap.proofs.BackLemmas.{near, value_in, window-is}
use Rattle.wfc_overlap.proofs.RuleLemmas.{AreAmong, among}

-- ---- the picture again

module _ (patterns : PatternsView) (output : Output) (pins : List Pin) (m : Raster) (taught : IsPatterns patterns) (room : IsRoom patterns output) (sized : IsSized m output.width output.height) (known : AreAmong patterns.windows output m patterns.n output.wrap) where
  abbrev a : List ℕ
  a = numbers_of_windows patterns output m

  pixel_again : (x y : ℕ) → x < output.width → y < output.height → pixel_of patterns output a x y ≡ number_at m x y
  pixel_again x y column row =
      let n = patterns.n in
      let across = near output.width n output.wrap x column taught.some_side room.wide in
      let below = near output.height n output.wrap y row taught.some_side room.high in
      let U = nearest output.width n output.wrap x in
      let V = nearest output.height n output.wrap y in
      let on_x : U + (x - U) ≡ x = omega (arith, across.before) in
      let on_y : V + (y - V) ≡ y = omega (arith, below.before) in
      let f : ℕ → ℕ → ℕ = λ i j. number_at m ((U + i) % m.width) ((V + j) % height_of m) in
      ap (λ p. cell_at n (window_at patterns p) (x - U) (y - V)) (number-at patterns output pins m U V across.inside below.inside)
      ∙ ap (λ w. cell_at n w (x - U) (y - V)) (number-is patterns output pins m known U V across.inside below.inside).same
      ∙ square-at n f (x - U) (y - V) across.within below.within
      ∙ ap (λ s. number_at m ((U + (x - U)) % s) ((V + (y - V)) % height_of m)) sized.same_width
      ∙ ap (λ s. number_at m ((U + (x - U)) % output.width) ((V + (y - V)) % s)) sized.same_height
      ∙ ap (λ s. number_at m s ((V + (y - V)) % output.height)) (ap (λ s. s % output.width) on_x ∙ mod_low x output.width column)
      ∙ ap (number_at m x) (ap (λ s. s % output.height) on_y ∙ mod_low y output.height row)

  raster_again : picture_of patterns output a ≡ m
  raster_again =
      made output.width (picture_of patterns output a).rows m (sym sized.same_width)
      (ext_get_or [] (picture_of patterns output a).rows m.rows (height ∙ sym sized.same_height) (λ y inside.
      let row : y < output.height = omega (arith, height) in
      let long : length (get_or m.rows y []) ≡ m.width = sized.raster.rows_fit y [] (omega (arith, sized.same_height)) in
      get_or-map-range_with_len (λ y. map (λ x. pixel_of patterns output a x y) (range_with_len 0 output.width)) 0 output.height y y [] row (zero-add y)
      ∙ ext_get_or 0 (map (λ x. pixel_of patterns output a x y) (range_with_len 0 output.width)) (get_or m.rows y [])
      (length-map-range_with_len (λ x. pixel_of patterns output a x y) 0 output.width ∙ sym sized.same_width ∙ sym long) (λ x in_row.
      let column : x < output.width = omega (arith, length-map-range_with_len (λ x. pixel_of patterns output a x y) 0 output.width) in
      get_or-map-range_with_len (λ x. pixel_of patterns output a x y) 0 output.width x x 0 column (zero-add x) ∙ pixel_again x y column row)))
    where
      height : length (picture_of patterns output a).rows ≡ output.height
      height = length-map-range_with_len (λ y. map (λ x. pixel_of patterns output a x y) (range_with_len 0 output.width)) 0 output.height

      made : (w : ℕ) (rows : List (List ℕ)) (m : Raster) → w ≡ m.width → rows ≡ m.rows → (let r : Raster = record { width = w; rows = rows } in r) ≡ m
      made w rows m wide same = λ i. record { width = wide i; rows = same i }

pub picture_again : (sample : Raster) (rules : Rules) (patterns : PatternsView) (output : Output) (pins : List Pin) (m : Raster) → IsPatterns patterns → IsRoom patterns output → IsTaughtBy sample rules patterns output → IsLegalPicture sample rules pins output.width output.height m → picture_of patterns output (numbers_of_windows patterns output m) ≡ m
picture_again sample rules patterns output pins m taught room by legal =
    raster_again patterns output pins m taught room legal.sized (among sample rules patterns output pins m by legal)

-- ---- the assignment again

-- among different windows each is the first that is it
own_number : (patterns : PatternsView) (p : ℕ) → AreDifferent patterns.windows → p < length patterns.windows → pattern_number patterns (window_at patterns p) ≡ p
own_number patterns p different inside =
    let w = window_at patterns p in
    position_or_len_is (pointwise nat_eq w) patterns.windows p [] (omega arith)
    (λ k before. false_from_ne_true (pointwise nat_eq w (window_at patterns k)) (λ same. different k p [] before inside (sym ((same_window-Decides w (window_at patterns k)).0 same))))
    (λ _. (same_window-Decides w w).1 refl)

pub numbers_again : (sample : Raster) (rules : Rules) (patterns : PatternsView) (output : Output) (pins : List Pin) (a : List ℕ) → IsPatterns patterns → IsRoom patterns output → IsTaughtBy sample rules patterns output → IsLegalAssignment (problem_of_sample patterns output pins) a → numbers_of_windows patterns output (picture_of patterns output a) ≡ a
numbers_again sample rules patterns output pins a taught room by legal =
    let picture = picture_of patterns output a in
    let all = places output.width output.height patterns.n output.wrap in
    let columns = starts output.width patterns.n output.wrap in
    let long : length (numbers_of_windows patterns output picture) ≡ length all = length-map all (λ (place : ℕ × ℕ). pattern_number patterns (window picture place.0 place.1 patterns.n)) in
    ext_get_or 0 (numbers_of_windows patterns output picture) a (long ∙ sym legal.each_cell) (λ c inside.
    let place = cell_place patterns output pins c (omega (arith, long)) in
    let x = c % columns in
    let y = c / columns in
    ap (λ k. get_or (numbers_of_windows patterns output picture) k 0) (sym place.cell)
    ∙ number-at patterns output pins picture x y place.column place.row
    ∙ ap (pattern_number patterns) (window-is patterns output pins a taught room legal x y place.column place.row)
    ∙ own_number patterns (get_or a (place_number columns x y) 0) taught.different (value_in patterns output pins a taught room legal x y place.column place.row)
    ∙ ap (λ k. get_or a k 0) place.cell)
