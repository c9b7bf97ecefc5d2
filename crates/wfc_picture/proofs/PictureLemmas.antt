-- What the fields of a picture say of the picture that is seen.
use Rattle.std.proofs.Common.{◌≡◌, ℕ, ◌+◌, ◌*◌, ◌%◌, ◌<◌, List, length, get_or, sym, subst, ap, ◌∙◌, arith}
use Rattle.std.proofs.lemmas.Nat.{mul-add-lt, mod_below}
use Rattle.std.proofs.lemmas.List.{get_or_read}
use Rattle.wfc_model.specs.Raster.{Raster, IsRaster, height_of, number_at, raster_of}
use Rattle.wfc_model.proofs.CallerLemmas.{height-raster_of, number_at-raster_of, IsSized-raster_of}
use Rattle.wfc_model.specs.Raster.{IsFilled}

module _ (w h : ℕ) (numbers : List ℕ) (m : Raster) (same : raster_of w h numbers ≡ m) where
  pub width_seen : w ≡ m.width
  width_seen = ap (λ (r : Raster). r.width) same

  pub height_seen : h ≡ height_of m
  height_seen = sym (height-raster_of w h numbers) ∙ ap height_of same

  module _ (filled : IsFilled w h numbers) where
    pub raster_seen : IsRaster m
    raster_seen = subst IsRaster same (IsSized-raster_of w h numbers filled).raster

    pub place_seen : (x y : ℕ) → x < w → y < h → y * w + x < length numbers
    place_seen x y column row = omega (arith, filled.as_many, mul-add-lt y w x h row column)

    -- what stands at its place is the number in column x of row y
    pub number_seen : (x y v : ℕ) → x < w → y < h → v ≡ get_or numbers (y * w + x) v → v ≡ number_at m x y
    number_seen x y v column row read =
        get_or_read numbers (y * w + x) v (place_seen x y column row) read 0
        ∙ sym (number_at-raster_of w h numbers x y column row)
        ∙ ap (λ (r : Raster). number_at r x y) same

    -- and modulo the sides
    pub number_wrapped : (x y v : ℕ) → v ≡ get_or numbers (y % h * w + x % w) v → v ≡ number_at m (x % m.width) (y % height_of m)
    number_wrapped x y v read =
        number_seen (x % w) (y % h) v (mod_below x w filled.some_column) (mod_below y h filled.some_row) read
        ∙ ap (λ k. number_at m (x % k) (y % h)) width_seen
        ∙ ap (λ k. number_at m (x % m.width) (y % k)) height_seen
