-- A learned window arises, one that arises is learned, and what arises in a sample are the images at its places.
use Rattle.std.proofs.Common.{◌≡◌, ℕ, ◌<◌, Bool, List, nat_eq, refl, arith, map}
use Rattle.std.specs.List.{All, Contains, range_with_len, AllByRecursion}
use Rattle.std.specs.Bool.{Decides}
use Rattle.std.specs.Cmp.Lexicographic.{pointwise}
use Rattle.std.proofs.lemmas.List.Elements.{All-contains, All-contains_itself, All-from_recursion, recursion_from_All}
use Rattle.std.proofs.lemmas.Slice.Eq.{bytes_eq-Decides}
use Rattle.wfc_lists.proofs.Lists.{each_in_lists, lists_each}
use Rattle.wfc_lists.proofs.Ranges.{each_in_row, row_each}
use Rattle.wfc_lists.proofs.WithoutRepeats.{without_repeats-Contains, Contains-without_repeats}
use Rattle.wfc_model.specs.Raster.{Raster, height_of}
use Rattle.wfc_model.specs.Window.{window, places, starts}
use Rattle.wfc_model.specs.Image.{image}
use Rattle.wfc_model.specs.Learned.{learned, arising}
use Rattle.wfc_model.proofs.PlaceLemmas.{All-places, at_place}

-- the test of windows says whether they are one
pub same_window-Decides : (v w : List ℕ) → Decides (pointwise nat_eq v w) (v ≡ w)
same_window-Decides v w = bytes_eq-Decides v w

-- a learned window arises
pub learned-arising : (sample : Raster) (n s : ℕ) (wrap : Bool) (w : List ℕ) → Contains (learned sample n s wrap) w → Contains (arising sample n s wrap) w
learned-arising sample n s wrap w within = without_repeats-Contains (pointwise nat_eq) (arising sample n s wrap) w within

-- and one that arises is learned
pub arising-learned : (sample : Raster) (n s : ℕ) (wrap : Bool) (w : List ℕ) → Contains (arising sample n s wrap) w → Contains (learned sample n s wrap) w
arising-learned sample n s wrap w within =
    Contains-without_repeats (pointwise nat_eq) (λ u v. (same_window-Decides u v).0) (λ v. (same_window-Decides v v).1 refl) (arising sample n s wrap) w within

-- what holds of each image of the window at each place holds of what arises, and the other way round
pub All-arising : (P : List ℕ → Type 0) (sample : Raster) (n s : ℕ) (wrap : Bool)
    → ((x y k : ℕ) → x < starts sample.width n wrap → y < starts (height_of sample) n wrap → k < s → P (image n (window sample x y n) k))
    → All P (arising sample n s wrap)
All-arising P sample n s wrap holds =
    let images : ℕ × ℕ → List (List ℕ) = λ place. map (image n (window sample place.0 place.1 n)) (range_with_len 0 s) in
    All-from_recursion P (arising sample n s wrap)
    (each_in_lists P images (places sample.width (height_of sample) n wrap)
    (recursion_from_All (λ place. AllByRecursion P (images place)) (places sample.width (height_of sample) n wrap)
    (All-places (λ place. AllByRecursion P (images place)) sample.width (height_of sample) n wrap
    (λ x y left below. each_in_row P (image n (window sample x y n)) 0 s (λ k _ first. holds x y k left below (omega arith))))))

-- and the other way
pub at_arising : (P : List ℕ → Type 0) (sample : Raster) (n s : ℕ) (wrap : Bool) → All P (arising sample n s wrap)
    → (x y k : ℕ) → x < starts sample.width n wrap → y < starts (height_of sample) n wrap → k < s → P (image n (window sample x y n) k)
at_arising P sample n s wrap all x y k left below first =
    let images : ℕ × ℕ → List (List ℕ) = λ place. map (image n (window sample place.0 place.1 n)) (range_with_len 0 s) in
    row_each P (image n (window sample x y n)) 0 s
    (at_place (λ place. AllByRecursion P (images place)) sample.width (height_of sample) n wrap
    (All-from_recursion (λ place. AllByRecursion P (images place)) (places sample.width (height_of sample) n wrap)
    (lists_each P images (places sample.width (height_of sample) n wrap) (recursion_from_All P (arising sample n s wrap) all)))
    x y left below)
    k (omega arith) (omega arith)

-- an image at a place arises
pub Contains-arising : (sample : Raster) (n s : ℕ) (wrap : Bool) (x y k : ℕ) → x < starts sample.width n wrap → y < starts (height_of sample) n wrap → k < s
    → Contains (arising sample n s wrap) (image n (window sample x y n) k)
Contains-arising sample n s wrap x y k left below first =
    at_arising (Contains (arising sample n s wrap)) sample n s wrap (All-contains_itself (arising sample n s wrap)) x y k left below first

-- where a window that arises comes from
pub record Arises (sample : Raster) (n s : ℕ) (wrap : Bool) (w : List ℕ) : Type 0 where
  pub x : ℕ
  pub y : ℕ
  pub k : ℕ
  pub left : x < starts sample.width n wrap
  pub below : y < starts (height_of sample) n wrap
  pub first : k < s
  pub same : w ≡ image n (window sample x y n) k

-- each window that arises comes from somewhere
pub Arises-from : (sample : Raster) (n s : ℕ) (wrap : Bool) (w : List ℕ) → Contains (arising sample n s wrap) w → Arises sample n s wrap w
Arises-from sample n s wrap w within =
    All-contains (Arises sample n s wrap) (arising sample n s wrap) w
    (All-arising (Arises sample n s wrap) sample n s wrap (λ x y k left below first. record { x = x; y = y; k = k; left = left; below = below; first = first; same = refl })) within
