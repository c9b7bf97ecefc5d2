-- The images that arise, by their numbers.
use Rattle.std.proofs.Common.{◌≡◌, ℕ, ◌*◌, ◌/◌, ◌%◌, ◌<◌, Bool, [], get_or, sym, ap, ◌∙◌, arith, zero-add}
use Rattle.std.specs.List.{range_with_len}
use Rattle.std.proofs.lemmas.List.{ext_get_or}
use Rattle.std.proofs.lemmas.List.FromFn.{length-map-range_with_len, get_or-map-range_with_len}
use Rattle.std.proofs.lemmas.Nat.{div_below, mod_below, div-add-mod'}
use Rattle.wfc_lists.proofs.Tables.{table-at}
use Rattle.wfc_model.specs.Raster.{Raster, height_of}
use Rattle.wfc_model.specs.Window.{window, places, starts}
use Rattle.wfc_model.specs.Image.{image}
use Rattle.wfc_model.specs.Learned.{arising}
use Rattle.wfc_model.proofs.CallerLemmas.{length-places, places-at, cell_is}
use Rattle.wfc_pattern.specs.Arising.{images_at}
use Rattle.wfc_pattern.specs.Different.{arisen, images_of}
use Rattle.wfc_pattern.proofs.LearningLemmas.{length-arising}

module _ (sample : Raster) (n s : ℕ) (wrap : Bool) where
  abbrev columns : ℕ
  columns = starts sample.width n wrap

  abbrev rows : ℕ
  rows = starts (height_of sample) n wrap

  -- the place of an image is the one with its number by s
  place_is : (p : ℕ) → p < rows * columns → get_or (places sample.width (height_of sample) n wrap) p (0, 0) ≡ (p % columns, p / columns)
  place_is p inside =
      let cell = cell_is columns rows p inside in
      ap (λ k. get_or (places sample.width (height_of sample) n wrap) k (0, 0)) (sym cell.cell)
      ∙ places-at sample.width (height_of sample) n wrap (p % columns) (p / columns) (0, 0) cell.column cell.row

  -- and it is the image with the number modulo s
  image_is : 0 < s → (i : ℕ) → i < rows * (columns * s) → get_or (arising sample n s wrap) i [] ≡ arisen sample n s columns i
  image_is some i inside =
      let p = i / s in
      let k = i % s in
      let place_in : p < rows * columns = div_below i s (rows * columns) some (omega arith) in
      let image_in : k < s = mod_below i s some in
      ap (λ j. get_or (arising sample n s wrap) j []) (sym (div-add-mod' i s))
      ∙ table-at (images_at sample n s) s (λ place. length-map-range_with_len (image n (window sample place.0 place.1 n)) 0 s) (places sample.width (height_of sample) n wrap) p k (0, 0) []
      (omega (arith, length-places sample.width (height_of sample) n wrap)) image_in
      ∙ ap (λ (place : ℕ × ℕ). get_or (images_at sample n s place) k []) (place_is p place_in)
      ∙ get_or-map-range_with_len (image n (window sample (p % columns) (p / columns) n)) 0 s k k [] image_in (zero-add k)

  -- what arises are the images with all numbers
  pub arising_numbered : 0 < s → arising sample n s wrap ≡ images_of sample n s columns (range_with_len 0 (rows * (columns * s)))
  arising_numbered some =
      ext_get_or [] (arising sample n s wrap) (images_of sample n s columns (range_with_len 0 (rows * (columns * s))))
      (length-arising sample n s wrap ∙ sym (length-map-range_with_len (arisen sample n s columns) 0 (rows * (columns * s))))
      (λ i within.
      let inside : i < rows * (columns * s) = omega (arith, length-arising sample n s wrap) in
      image_is some i inside ∙ sym (get_or-map-range_with_len (arisen sample n s columns) 0 (rows * (columns * s)) i i [] inside (zero-add i)))
