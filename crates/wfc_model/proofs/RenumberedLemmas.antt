-- Renumbering goes through windows and what arises, so that it changes no legality; and each number that is learned, or
-- stands in a legal picture, is one of the sample.
use Rattle.std.proofs.Common.{◌≡◌, ◌≢◌, ℕ, ◌+◌, ◌-◌, ◌*◌, ◌/◌, ◌%◌, ◌<◌, ◌≤◌, Bool, true, false, List, [], ◌∷◌, ◌++◌, length, get_or, map, nat_eq, refl, sym, subst, ◌∙◌, ap, arith, Option, Some, None, inl, inr, ◌⊎◌}
use Rattle.std.specs.List.{All, Contains, concat, find, AllByRecursion}
use Rattle.std.specs.Prelude.{MatchBool, unwrap_or}
use Rattle.std.proofs.lemmas.Bool.{eqb-true, eq-eqb, false≢true}
use Rattle.std.proofs.lemmas.List.{get_or-map, get_or_default, length-map, map-append, ext_get_or}
use Rattle.std.proofs.lemmas.List.Elements.{All-get_or, All-from_get_or, All-map, All-contains, All-contains_itself, All-weaker, recursion_from_All}
use Rattle.std.proofs.Math.Nat.{mod-eq_of_lt}
use Rattle.std.proofs.lemmas.Nat.{mul-add-lt, mod_below}
use Rattle.wfc_lists.proofs.Lists.{each_front, each_back}
use Rattle.wfc_lists.proofs.Positions.{find_passes, find_fails}
use Rattle.wfc_model.specs.Raster.{Raster, IsFilled, IsRaster, IsSized, height_of, number_at, numbers_of, raster_of}
use Rattle.wfc_model.specs.Window.{window, starts}
use Rattle.wfc_model.specs.Image.{image}
use Rattle.wfc_model.specs.Learned.{learned, arising}
use Rattle.wfc_model.specs.Legal.{Rules, Pin, IsHeld, IsLegalPicture}
use Rattle.wfc_model.specs.Renumbered.{renumbered_picture, renumbered_pin, IsKnown, IsRenumbering}
use Rattle.wfc_model.proofs.ImageLemmas.{All-square, map-square, All-image, image-map}
use Rattle.wfc_model.proofs.LearnedLemmas.{learned-arising, arising-learned, Contains-arising, Arises-from}
use Rattle.wfc_model.proofs.PlaceLemmas.{All-places, at_place, cell_is}
use Rattle.wfc_model.proofs.RasterLemmas.{number_at-numbers_of, length-numbers_of, raster_of-numbers_of, numbers_of-raster_of, IsSized-raster_of}
use Rattle.wfc_model.proofs.SquareLemmas.{length-square, square-same, square-at, place_in_square}

-- ---- the numbers of a picture

-- a picture has its own sides
own_sides : (m : Raster) → IsRaster m → IsSized m m.width (height_of m)
own_sides m raster = record { raster = raster; same_width = refl; same_height = refl }

-- what stands inside is one of its numbers
number_known : (m : Raster) → IsRaster m → (x y : ℕ) → x < m.width → y < height_of m → Contains (numbers_of m) (number_at m x y)
number_known m raster x y column row =
    let sized = own_sides m raster in
    let at = number_at-numbers_of m m.width (height_of m) sized x y column row in
    let inside : y * m.width + x < length (numbers_of m) = omega (arith, length-numbers_of m m.width (height_of m) sized, mul-add-lt y m.width x (height_of m) row column) in
    (y * m.width + x, inside, get_or_default (numbers_of m) (y * m.width + x) (number_at m x y) 0 inside ∙ sym at)

-- each number of a window is one of the picture's
window_known : (m : Raster) → IsRaster m → (n x y : ℕ) → All (Contains (numbers_of m)) (window m x y n)
window_known m raster n x y =
    All-square (Contains (numbers_of m)) n (λ i j. number_at m ((x + i) % m.width) ((y + j) % height_of m))
    (λ i j _ _. number_known m raster ((x + i) % m.width) ((y + j) % height_of m) (mod_below (x + i) m.width raster.some_column) (mod_below (y + j) (height_of m) raster.some_row))

length-window : (m : Raster) (x y n : ℕ) → length (window m x y n) ≡ n * n
length-window m x y n = length-square n (λ i j. number_at m ((x + i) % m.width) ((y + j) % height_of m))

-- each number of a learned window is one of the sample's
pub learned_known : (sample : Raster) → IsRaster sample → (n s : ℕ) (wrap : Bool) → All (All (Contains (numbers_of sample))) (learned sample n s wrap)
learned_known sample raster n s wrap =
    All-weaker (Contains (learned sample n s wrap)) (All (Contains (numbers_of sample))) (λ w within.
    let from = Arises-from sample n s wrap w (learned-arising sample n s wrap w within) in
    subst (All (Contains (numbers_of sample))) (sym from.same)
    (All-image (Contains (numbers_of sample)) n (window sample from.x from.y n) from.k (length-window sample from.x from.y n) (window_known sample raster n from.x from.y)))
    (learned sample n s wrap) (All-contains_itself (learned sample n s wrap))

-- ---- the numbers of a legal picture

-- the start of a window that reaches a column, which is its own but near an end that doesn't wrap
pub record IsReached (side n : ℕ) (wrap : Bool) (x u i : ℕ) : Type 0 where
  pub start : u < starts side n wrap
  pub entry : i < n
  pub there : u + i ≡ x

reached : (side n : ℕ) (wrap : Bool) (x : ℕ) → 0 < n → n ≤ side → x < side → (u : ℕ) × (i : ℕ) × IsReached side n wrap x u i
reached side n true x some fits inside = (x, 0, record { start = inside; entry = some; there = omega arith })
reached side n false x some fits inside = elim (before x (side - n)) [
  | inl low ↦ (x, 0, record { start = omega arith; entry = some; there = omega arith })
  | inr high ↦ (side - n, x - (side - n), record { start = omega arith; entry = omega arith; there = omega arith })
]
  where
    before : (x y : ℕ) → (x ≤ y) ⊎ (y < x)
    before x y = grind arith

-- the entry of a window that shows a pixel is the pixel's number
shown : (m : Raster) (n u v i j x y : ℕ) → i < n → j < n → u + i ≡ x → v + j ≡ y → x < m.width → y < height_of m → get_or (window m u v n) (j * n + i) 0 ≡ number_at m x y
shown m n u v i j x y entry_column entry_row across down column row =
    let column_is : (u + i) % m.width ≡ x = ap (λ k. k % m.width) across ∙ mod-eq_of_lt column in
    let row_is : (v + j) % height_of m ≡ y = ap (λ k. k % height_of m) down ∙ mod-eq_of_lt row in
    square-at n (λ a b. number_at m ((u + a) % m.width) ((v + b) % height_of m)) i j entry_column entry_row
    ∙ ap (λ k. number_at m k ((v + j) % height_of m)) column_is
    ∙ ap (number_at m x) row_is

-- each number of a legal picture is one of the sample's
pub legal_known : (sample : Raster) (rules : Rules) (pins : List Pin) (w h : ℕ) (m : Raster) → IsRaster sample → 0 < rules.n → IsLegalPicture sample rules pins w h m → IsKnown sample m
legal_known sample rules pins w h m raster some legal =
    All-from_get_or (Contains (numbers_of sample)) (numbers_of m) 0 (λ k inside.
    let long = length-numbers_of m w h legal.sized in
    let swap : w * h ≡ h * w = omega arith in
    let cell = cell_is w h k (omega arith) in
    subst (Contains (numbers_of sample)) (number_at-numbers_of m w h legal.sized (k % w) (k / w) cell.column cell.row ∙ ap (λ x. get_or (numbers_of m) x 0) cell.cell)
    (pixel_known (k % w) (k / w) cell.column cell.row))
  where
    pixel_known : (x y : ℕ) → x < w → y < h → Contains (numbers_of sample) (number_at m x y)
    pixel_known x y column row =
        let n = rules.n in
        let across = reached w n rules.wrap_out x some legal.wide column in
        let down = reached h n rules.wrap_out y some legal.high row in
        let is_learned = at_place (λ (place : ℕ × ℕ). Contains (learned sample n rules.symmetry rules.wrap_in) (window m place.0 place.1 n)) w h n rules.wrap_out legal.windows across.0 down.0 across.2.start down.2.start in
        let known = All-contains (All (Contains (numbers_of sample))) (learned sample n rules.symmetry rules.wrap_in) (window m across.0 down.0 n) (learned_known sample raster n rules.symmetry rules.wrap_in) is_learned in
        let place = place_in_square n across.1 down.1 across.2.entry down.2.entry in
        subst (Contains (numbers_of sample))
        (shown m n across.0 down.0 across.1 down.1 x y across.2.entry down.2.entry across.2.there down.2.there (omega (arith, legal.sized.same_width)) (omega (arith, legal.sized.same_height)))
        (All-get_or (Contains (numbers_of sample)) (window m across.0 down.0 n) (down.1 * n + across.1) 0 (omega (arith, length-window m across.0 down.0 n)) known)

-- ---- renumbering

-- the picture stays as high
height-renumbered_picture : (f : ℕ → ℕ) (m : Raster) → height_of (renumbered_picture f m) ≡ height_of m
height-renumbered_picture f m = length-map m.rows (map f)

-- and a picture
IsRaster-renumbered_picture : (f : ℕ → ℕ) (m : Raster) → IsRaster m → IsRaster (renumbered_picture f m)
IsRaster-renumbered_picture f m raster = record {
  some_column = raster.some_column;
  some_row = rw (height-renumbered_picture f m) raster.some_row;
  rows_fit = All-map (λ (row : List ℕ). length row ≡ m.width) (map f) m.rows
      (All-weaker (λ (row : List ℕ). length row ≡ m.width) (λ (row : List ℕ). length (map f row) ≡ m.width) (λ row fits. length-map row f ∙ fits) m.rows raster.rows_fit);
}

IsSized-renumbered_picture : (f : ℕ → ℕ) (m : Raster) (w h : ℕ) → IsSized m w h → IsSized (renumbered_picture f m) w h
IsSized-renumbered_picture f m w h sized = record { raster = IsRaster-renumbered_picture f m sized.raster; same_width = sized.same_width; same_height = height-renumbered_picture f m ∙ sized.same_height }

-- each number becomes the one given for it
pub number_at-renumbered_picture : (f : ℕ → ℕ) (m : Raster) → IsRaster m → (x y : ℕ) → x < m.width → y < height_of m → number_at (renumbered_picture f m) x y ≡ f (number_at m x y)
number_at-renumbered_picture f m raster x y column row =
    let long = All-get_or (λ (r : List ℕ). length r ≡ m.width) m.rows y [] row raster.rows_fit in
    ap (λ (r : List ℕ). get_or r x 0) (get_or-map (map f) m.rows y [] [] row)
    ∙ get_or-map f (get_or m.rows y []) x 0 0 (omega arith)

-- and so in each window
pub window-renumbered_picture : (f : ℕ → ℕ) (m : Raster) → IsRaster m → (x y n : ℕ) → window (renumbered_picture f m) x y n ≡ map f (window m x y n)
window-renumbered_picture f m raster x y n =
    square-same n (λ i j. number_at (renumbered_picture f m) ((x + i) % m.width) ((y + j) % height_of (renumbered_picture f m))) (λ i j. f (number_at m ((x + i) % m.width) ((y + j) % height_of m)))
    (λ i j _ _.
    ap (λ h. number_at (renumbered_picture f m) ((x + i) % m.width) ((y + j) % h)) (height-renumbered_picture f m)
    ∙ number_at-renumbered_picture f m raster ((x + i) % m.width) ((y + j) % height_of m) (mod_below (x + i) m.width raster.some_column) (mod_below (y + j) (height_of m) raster.some_row))
    ∙ sym (map-square f n (λ i j. number_at m ((x + i) % m.width) ((y + j) % height_of m)))

-- an image of a window renumbered is the image renumbered
image-renumbered_picture : (f : ℕ → ℕ) (m : Raster) → IsRaster m → (x y n k : ℕ) → image n (window (renumbered_picture f m) x y n) k ≡ map f (image n (window m x y n) k)
image-renumbered_picture f m raster x y n k =
    ap (λ w. image n w k) (window-renumbered_picture f m raster x y n) ∙ image-map f n (window m x y n) k (length-window m x y n)

-- where a window is learned, the window renumbered is learned from the sample renumbered
learned_there : (f : ℕ → ℕ) (sample : Raster) → IsRaster sample → (n s : ℕ) (wrap : Bool) (w : List ℕ) → Contains (learned sample n s wrap) w → Contains (learned (renumbered_picture f sample) n s wrap) (map f w)
learned_there f sample raster n s wrap w within =
    let from = Arises-from sample n s wrap w (learned-arising sample n s wrap w within) in
    let below : from.y < starts (height_of (renumbered_picture f sample)) n wrap = rw (height-renumbered_picture f sample) from.below in
    arising-learned (renumbered_picture f sample) n s wrap (map f w)
    (subst (Contains (arising (renumbered_picture f sample) n s wrap)) (image-renumbered_picture f sample raster from.x from.y n from.k ∙ ap (map f) (sym from.same))
    (Contains-arising (renumbered_picture f sample) n s wrap from.x from.y from.k from.left below from.first))

-- lists that are renumbered to one are one, where no two of their numbers are given the same
map-one : (f : ℕ → ℕ) (known : List ℕ) → ((x y : ℕ) → Contains known x → Contains known y → f x ≡ f y → x ≡ y) → (xs ys : List ℕ) → All (Contains known) xs → All (Contains known) ys → map f xs ≡ map f ys → xs ≡ ys
map-one f known one xs ys all_x all_y same =
    let long : length xs ≡ length ys = sym (length-map xs f) ∙ ap length same ∙ length-map ys f in
    ext_get_or 0 xs ys long (λ k inside.
    one (get_or xs k 0) (get_or ys k 0) (All-get_or (Contains known) xs k 0 inside all_x) (All-get_or (Contains known) ys k 0 (omega arith) all_y)
    (sym (get_or-map f xs k 0 0 inside) ∙ ap (λ zs. get_or zs k 0) same ∙ get_or-map f ys k 0 0 (omega arith)))

-- where a window of the sample's numbers is learned once it is renumbered, it was before
learned_back : (f : ℕ → ℕ) (sample : Raster) → IsRaster sample → ((x y : ℕ) → Contains (numbers_of sample) x → Contains (numbers_of sample) y → f x ≡ f y → x ≡ y)
    → (n s : ℕ) (wrap : Bool) (w : List ℕ) → All (Contains (numbers_of sample)) w → Contains (learned (renumbered_picture f sample) n s wrap) (map f w) → Contains (learned sample n s wrap) w
learned_back f sample raster one n s wrap w known within =
    let from = Arises-from (renumbered_picture f sample) n s wrap (map f w) (learned-arising (renumbered_picture f sample) n s wrap (map f w) within) in
    let below : from.y < starts (height_of sample) n wrap = subst (λ h. from.y < starts h n wrap) (height-renumbered_picture f sample) from.below in
    let source = image n (window sample from.x from.y n) from.k in
    let source_known = All-image (Contains (numbers_of sample)) n (window sample from.x from.y n) from.k (length-window sample from.x from.y n) (window_known sample raster n from.x from.y) in
    let is : w ≡ source = map-one f (numbers_of sample) one w source known source_known (from.same ∙ image-renumbered_picture f sample raster from.x from.y n from.k) in
    arising-learned sample n s wrap w (subst (Contains (arising sample n s wrap)) (sym is) (Contains-arising sample n s wrap from.x from.y from.k from.left below from.first))

module _ (f : ℕ → ℕ) (sample : Raster) (rules : Rules) (pins : List Pin) (renumbering : IsRenumbering f sample pins) (w h : ℕ) (m : Raster) (known : IsKnown sample m) where
  -- a number of the picture is one of the sample's
  at_known : IsRaster m → (x y : ℕ) → x < m.width → y < height_of m → Contains (numbers_of sample) (number_at m x y)
  at_known raster x y column row = All-contains (Contains (numbers_of sample)) (numbers_of m) (number_at m x y) known (number_known m raster x y column row)

  -- a pin is held by the picture exactly where it is once both are renumbered
  held_there : IsRaster m → (pin : Pin) → Contains (numbers_of sample) pin.number → IsHeld m pin → IsHeld (renumbered_picture f m) (renumbered_pin f pin)
  held_there raster pin there held = record { column_in = held.column_in; row_in = rw (height-renumbered_picture f m) held.row_in; number = by pin.keep held.number }
    where
      at : number_at (renumbered_picture f m) pin.column pin.row ≡ f (number_at m pin.column pin.row)
      at = number_at-renumbered_picture f m raster pin.column pin.row held.column_in held.row_in

      by : (keep : Bool) → MatchBool keep (number_at m pin.column pin.row ≡ pin.number) (number_at m pin.column pin.row ≢ pin.number)
          → MatchBool keep (number_at (renumbered_picture f m) pin.column pin.row ≡ f pin.number) (number_at (renumbered_picture f m) pin.column pin.row ≢ f pin.number)
      by true same = at ∙ ap f same
      by false other = λ same. other (renumbering.one_to_one (number_at m pin.column pin.row) pin.number (at_known raster pin.column pin.row held.column_in held.row_in) there (sym at ∙ same))

  held_back : IsRaster m → (pin : Pin) → Contains (numbers_of sample) pin.number → IsHeld (renumbered_picture f m) (renumbered_pin f pin) → IsHeld m pin
  held_back raster pin there held = record { column_in = held.column_in; row_in = row; number = by pin.keep held.number }
    where
      row : pin.row < height_of m
      row = subst (λ rows. pin.row < rows) (height-renumbered_picture f m) held.row_in

      at : number_at (renumbered_picture f m) pin.column pin.row ≡ f (number_at m pin.column pin.row)
      at = number_at-renumbered_picture f m raster pin.column pin.row held.column_in row

      by : (keep : Bool) → MatchBool keep (number_at (renumbered_picture f m) pin.column pin.row ≡ f pin.number) (number_at (renumbered_picture f m) pin.column pin.row ≢ f pin.number)
          → MatchBool keep (number_at m pin.column pin.row ≡ pin.number) (number_at m pin.column pin.row ≢ pin.number)
      by true same = renumbering.one_to_one (number_at m pin.column pin.row) pin.number (at_known raster pin.column pin.row held.column_in row) there (sym at ∙ same)
      by false other = λ same. other (at ∙ ap f same)

  -- a picture of the sample's numbers is legal exactly where it is once all is renumbered
  pub legal_there : IsLegalPicture sample rules pins w h m → IsLegalPicture (renumbered_picture f sample) rules (map (renumbered_pin f) pins) w h (renumbered_picture f m)
  legal_there legal = record {
    sized = IsSized-renumbered_picture f m w h legal.sized;
    wide = legal.wide;
    high = legal.high;
    windows = All-places (λ (place : ℕ × ℕ). Contains (learned (renumbered_picture f sample) rules.n rules.symmetry rules.wrap_in) (window (renumbered_picture f m) place.0 place.1 rules.n)) w h rules.n rules.wrap_out (λ x y left below.
        subst (Contains (learned (renumbered_picture f sample) rules.n rules.symmetry rules.wrap_in)) (sym (window-renumbered_picture f m legal.sized.raster x y rules.n))
        (learned_there f sample renumbering.raster rules.n rules.symmetry rules.wrap_in (window m x y rules.n)
        (at_place (λ (place : ℕ × ℕ). Contains (learned sample rules.n rules.symmetry rules.wrap_in) (window m place.0 place.1 rules.n)) w h rules.n rules.wrap_out legal.windows x y left below)));
    held = All-map (IsHeld (renumbered_picture f m)) (renumbered_pin f) pins (λ k d inside. held_there legal.sized.raster (get_or pins k d) (renumbering.known k d inside) (legal.held k d inside));
  }

  pub legal_back : IsSized m w h → IsLegalPicture (renumbered_picture f sample) rules (map (renumbered_pin f) pins) w h (renumbered_picture f m) → IsLegalPicture sample rules pins w h m
  legal_back sized legal = record {
    sized = sized;
    wide = legal.wide;
    high = legal.high;
    windows = All-places (λ (place : ℕ × ℕ). Contains (learned sample rules.n rules.symmetry rules.wrap_in) (window m place.0 place.1 rules.n)) w h rules.n rules.wrap_out (λ x y left below.
        let shown = All-square (Contains (numbers_of sample)) rules.n (λ i j. number_at m ((x + i) % m.width) ((y + j) % height_of m))
        (λ i j _ _. at_known sized.raster ((x + i) % m.width) ((y + j) % height_of m) (mod_below (x + i) m.width sized.raster.some_column) (mod_below (y + j) (height_of m) sized.raster.some_row)) in
        learned_back f sample renumbering.raster renumbering.one_to_one rules.n rules.symmetry rules.wrap_in (window m x y rules.n) shown
        (subst (Contains (learned (renumbered_picture f sample) rules.n rules.symmetry rules.wrap_in)) (window-renumbered_picture f m sized.raster x y rules.n)
        (at_place (λ (place : ℕ × ℕ). Contains (learned (renumbered_picture f sample) rules.n rules.symmetry rules.wrap_in) (window (renumbered_picture f m) place.0 place.1 rules.n)) w h rules.n rules.wrap_out legal.windows x y left below)));
    held = λ k d inside.
        held_back sized.raster (get_or pins k d) (renumbering.known k d inside)
        (subst (IsHeld (renumbered_picture f m)) (get_or-map (renumbered_pin f) pins k d (renumbered_pin f d) inside)
        (legal.held k (renumbered_pin f d) (rw (length-map pins (renumbered_pin f)) inside)));
  }

-- ---- each legal picture of the renumbered sample

-- a list of numbers renumbered, row by row
numbers-renumbered_picture : (f : ℕ → ℕ) (rows : List (List ℕ)) → concat (map (map f) rows) ≡ map f (concat rows)
numbers-renumbered_picture f [] = refl
numbers-renumbered_picture f (row ∷ rows) = ap (λ more. map f row ++ more) (numbers-renumbered_picture f rows) ∙ sym (map-append f row (concat rows))

-- a picture of numbers renumbered is the picture of the numbers renumbered
pub renumbered_picture-raster_of : (f : ℕ → ℕ) (w h : ℕ) (numbers : List ℕ) → IsFilled w h numbers → renumbered_picture f (raster_of w h numbers) ≡ raster_of w h (map f numbers)
renumbered_picture-raster_of f w h numbers filled =
    let m = raster_of w h numbers in
    sym (raster_of-numbers_of (renumbered_picture f m) w h (IsSized-renumbered_picture f m w h (IsSized-raster_of w h numbers filled)))
    ∙ ap (raster_of w h) (numbers-renumbered_picture f m.rows ∙ ap (map f) (numbers_of-raster_of w h numbers filled.as_many))

-- a number of the sample that is given y, if there is one
abbrev source_of : (ℕ → ℕ) → List ℕ → ℕ → ℕ
source_of f known y = unwrap_or (find (λ x. nat_eq (f x) y) known) 0

-- where y is given to one of them, it is found
source_is : (f : ℕ → ℕ) (known : List ℕ) (y : ℕ) → Contains (map f known) y → (f (source_of f known y) ≡ y) × Contains known (source_of f known y)
source_is f known y within = by (find (λ x. nat_eq (f x) y) known) refl
  where
    given : nat_eq (f (get_or known within.0 0)) y ≡ true
    given =
        let inside : within.0 < length known = omega (arith, length-map known f, within.1) in
        eq-eqb (f (get_or known within.0 0)) y (sym (get_or-map f known within.0 0 y inside) ∙ within.2)

    there : Contains known (get_or known within.0 0)
    there =
        let inside : within.0 < length known = omega (arith, length-map known f, within.1) in
        (within.0, inside, get_or_default known within.0 (get_or known within.0 0) 0 inside)

    by : (o : Option ℕ) → find (λ x. nat_eq (f x) y) known ≡ o → (f (unwrap_or o 0) ≡ y) × Contains known (unwrap_or o 0)
    by None none = absurd (false≢true (sym (find_fails (λ x. nat_eq (f x) y) known (get_or known within.0 0) none there) ∙ given))
    by (Some x) found =
        let passes = find_passes (λ z. nat_eq (f z) y) known x found in
        (eqb-true (f x) y passes.0, passes.1)

-- numbers that come back one by one come back together
row_again : (f g : ℕ → ℕ) (row : List ℕ) → AllByRecursion (λ y. f (g y) ≡ y) row → map f (map g row) ≡ row
row_again f g [] all = refl
row_again f g (y ∷ ys) all = ap (λ x. x ∷ map f (map g ys)) all.0 ∙ ap (λ more. y ∷ more) (row_again f g ys all.1)

rows_again : (f g : ℕ → ℕ) (rows : List (List ℕ)) → AllByRecursion (λ y. f (g y) ≡ y) (concat rows) → map (map f) (map (map g) rows) ≡ rows
rows_again f g [] all = refl
rows_again f g (row ∷ rows) all =
    ap (λ r. r ∷ map (map f) (map (map g) rows)) (row_again f g row (each_front (λ y. f (g y) ≡ y) row (concat rows) all))
    ∙ ap (λ more. row ∷ more) (rows_again f g rows (each_back (λ y. f (g y) ≡ y) row (concat rows) all))

-- each is the renumbering of a legal picture
pub legal_found : (f : ℕ → ℕ) (sample : Raster) (rules : Rules) (pins : List Pin) → IsRenumbering f sample pins → (w h : ℕ) (m : Raster) → 0 < rules.n
    → IsLegalPicture (renumbered_picture f sample) rules (map (renumbered_pin f) pins) w h m → (source : Raster) × (renumbered_picture f source ≡ m) × IsKnown sample source × IsLegalPicture sample rules pins w h source
legal_found f sample rules pins renumbering w h m some legal = (source, again, known, legal_back f sample rules pins renumbering w h source known sized (subst (IsLegalPicture (renumbered_picture f sample) rules (map (renumbered_pin f) pins) w h) (sym again) legal))
  where
    g : ℕ → ℕ
    g = source_of f (numbers_of sample)

    given : All (Contains (map f (numbers_of sample))) (numbers_of m)
    given =
        subst (λ (ns : List ℕ). All (Contains ns) (numbers_of m)) (numbers-renumbered_picture f sample.rows)
        (legal_known (renumbered_picture f sample) rules (map (renumbered_pin f) pins) w h m (IsRaster-renumbered_picture f sample renumbering.raster) some legal)

    source : Raster
    source = renumbered_picture g m

    sized : IsSized source w h
    sized = IsSized-renumbered_picture g m w h legal.sized

    known : IsKnown sample source
    known =
        subst (All (Contains (numbers_of sample))) (sym (numbers-renumbered_picture g m.rows))
        (All-map (Contains (numbers_of sample)) g (numbers_of m)
        (All-weaker (Contains (map f (numbers_of sample))) (λ y. Contains (numbers_of sample) (g y)) (λ y within. (source_is f (numbers_of sample) y within).1) (numbers_of m) given))

    again : renumbered_picture f source ≡ m
    again =
        ap (λ (rows : List (List ℕ)). let r : Raster = record { width = m.width; rows = rows } in r)
        (rows_again f g m.rows (recursion_from_All (λ y. f (g y) ≡ y) (numbers_of m)
        (All-weaker (Contains (map f (numbers_of sample))) (λ y. f (g y) ≡ y) (λ y within. (source_is f (numbers_of sample) y within).0) (numbers_of m) given)))
