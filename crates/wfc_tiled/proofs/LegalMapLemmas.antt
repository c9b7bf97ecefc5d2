-- A small legal map with holes, and maps that are not.
use Rattle.std.proofs.Common.{◌≡◌, ℕ, zero, suc, ◌+◌, ◌*◌, ◌<◌, ◌⊎◌, inl, inr, false, [], ◌∷◌, refl, sym, subst, ◌∙◌, arith}
use Rattle.std.specs.Prelude.{Contains}
use Rattle.std.proofs.lemmas.Bool.{false≢true}
use Rattle.std.proofs.lemmas.List.Elements.{All-cons, All-nil}
use Rattle.wfc_model.specs.Legal.{IsHeld, kept_pin}
use Rattle.wfc_model.specs.Raster.{number_at}
use Rattle.wfc_model.proofs.CallerLemmas.{IsSized-raster_of}
use Rattle.wfc_tileset.specs.Allowed.{IsAcross, IsDown, across_pairs, down_pairs, may_be_above, may_be_left}
use Rattle.wfc_tileset.specs.Samples.{crossing}
use Rattle.wfc_tileset.specs.Tiles.{TileSetView, variant_at, variant_total}
use Rattle.wfc_tileset.specs.declared.TheConstants.{HOLE}
use Rattle.wfc_tileset.proofs.CallerLemmas.{has_the_pair}
use Rattle.wfc_tiled.specs.Maps.{IsLegalTileMap, IsNext}
use Rattle.wfc_tiled.specs.Mask.{IsPlace}
use Rattle.wfc_tiled.specs.Small.{four_places, four_tiles}

-- the places of the small mask
four_are : (n : ℕ) → Contains (0 ∷ 1 ∷ 3 ∷ 7 ∷ []) n → (n ≡ 0) ⊎ ((n ≡ 1) ⊎ ((n ≡ 3) ⊎ (n ≡ 7)))
four_are n (zero, l, e) = inl (sym e)
four_are n (suc zero, l, e) = inr (inl (sym e))
four_are n (suc (suc zero), l, e) = inr (inr (inl (sym e)))
four_are n (suc (suc (suc zero)), l, e) = inr (inr (inr (sym e)))
four_are n (suc (suc (suc (suc k))), l, e) = absurd (omega (arith, l))

-- which column and row they have
places_are : (x y : ℕ) → x < 4 → y < 2 → IsPlace four_places x y
    → ((x ≡ 0) × (y ≡ 0)) ⊎ (((x ≡ 1) × (y ≡ 0)) ⊎ (((x ≡ 3) × (y ≡ 0)) ⊎ ((x ≡ 3) × (y ≡ 1))))
places_are x y column row place =
    elim (four_are (y * 4 + x) place) [
      | inl e ↦ inl (omega arith, omega arith)
      | inr more ↦ elim more [
        | inl e ↦ inr (inl (omega arith, omega arith))
        | inr most ↦ elim most [
          | inl e ↦ inr (inr (inl (omega arith, omega arith)))
          | inr e ↦ inr (inr (inr (omega arith, omega arith)))
        ]
      ]
    ]

-- what holds of a place holds of its column and its row
at : (P : ℕ → ℕ → Type 0) (x y i j : ℕ) → (x ≡ i) × (y ≡ j) → P i j → P x y
at P x y i j same holds = subst (λ k. P k y) (sym same.0) (subst (P i) (sym same.1) holds)

-- the number at a place is a variant's
abbrev HasVariant : ℕ → ℕ → Type 0
HasVariant x y = number_at four_tiles x y < variant_total crossing.tiles

filled_at : (x y : ℕ) → x < 4 → y < 2 → IsPlace four_places x y → number_at four_tiles x y < variant_total crossing.tiles
filled_at x y column row place =
    elim (places_are x y column row place) [
      | inl e ↦ at HasVariant x y 0 0 e (omega arith)
      | inr more ↦ elim more [
        | inl e ↦ at HasVariant x y 1 0 e (omega arith)
        | inr most ↦ elim most [ inl e ↦ at HasVariant x y 3 0 e (omega arith) | inr e ↦ at HasVariant x y 3 1 e (omega arith) ]
      ]
    ]

holes_at : (x y : ℕ) → x < 4 → y < 2 → (IsPlace four_places x y → ⊥) → number_at four_tiles x y ≡ HOLE
holes_at zero zero column row hole = absurd (hole (0, omega arith, refl))
holes_at (suc zero) zero column row hole = absurd (hole (1, omega arith, refl))
holes_at (suc (suc zero)) zero column row hole = refl
holes_at (suc (suc (suc zero))) zero column row hole = absurd (hole (2, omega arith, refl))
holes_at zero (suc zero) column row hole = refl
holes_at (suc zero) (suc zero) column row hole = refl
holes_at (suc (suc zero)) (suc zero) column row hole = refl
holes_at (suc (suc (suc zero))) (suc zero) column row hole = absurd (hole (3, omega arith, refl))
holes_at (suc (suc (suc (suc x)))) y column row hole = absurd (omega (arith, column))
holes_at x (suc (suc y)) column row hole = absurd (omega (arith, row))

-- the next is one further, where nothing wraps
next_by : (count at next : ℕ) → IsNext count false at next → next ≡ at + 1
next_by count at next is = elim is.1 [ inl e ↦ e | inr last ↦ absurd (false≢true last.0) ]

-- no place where none is
pub no_place : (n : ℕ) → Contains (0 ∷ 1 ∷ 3 ∷ 7 ∷ []) n → (n ≡ 0 → ⊥) → (n ≡ 1 → ⊥) → (n ≡ 3 → ⊥) → (n ≡ 7 → ⊥) → ⊥
no_place n has one two three four = elim (four_are n has) [ inl e ↦ one e | inr more ↦ elim more [ inl e ↦ two e | inr most ↦ elim most [ inl e ↦ three e | inr e ↦ four e ] ] ]

across_at : (x y u : ℕ) → x < 4 → y < 2 → IsNext 4 false x u → IsPlace four_places x y → IsPlace four_places u y
    → IsAcross crossing (variant_at crossing.tiles (number_at four_tiles x y)) (variant_at crossing.tiles (number_at four_tiles u y))
across_at x y u column row next here other =
    let e = next_by 4 x u next in
    let inside = next.0 in
    elim (places_are x y column row here) [
      | inl z ↦ let one : u ≡ 1 = omega (arith, z.0) in
          subst (λ k. IsAcross crossing (variant_at crossing.tiles (number_at four_tiles x y)) (variant_at crossing.tiles (number_at four_tiles k y))) (sym one)
          (at (λ i j. IsAcross crossing (variant_at crossing.tiles (number_at four_tiles i j)) (variant_at crossing.tiles (number_at four_tiles 1 j))) x y 0 0 z (0, omega arith, refl))
      | inr more ↦ elim more [
        | inl z ↦ let two : u ≡ 2 = omega (arith, z.0) in let low : y ≡ 0 = z.1 in
            absurd (no_place (y * 4 + u) other (λ k. omega arith) (λ k. omega arith) (λ k. omega arith) (λ k. omega arith))
        | inr most ↦ elim most [ inl z ↦ absurd (omega (arith, z.0)) | inr z ↦ absurd (omega (arith, z.0)) ]
      ]
    ]

down_at : (x y v : ℕ) → x < 4 → y < 2 → IsNext 2 false y v → IsPlace four_places x y → IsPlace four_places x v
    → IsDown crossing (variant_at crossing.tiles (number_at four_tiles x y)) (variant_at crossing.tiles (number_at four_tiles x v))
down_at x y v column row next here other =
    let e = next_by 2 y v next in
    let inside = next.0 in
    elim (places_are x y column row here) [
      | inl z ↦ let first : x ≡ 0 = z.0 in let low : y ≡ 0 = z.1 in
          absurd (no_place (v * 4 + x) other (λ k. omega arith) (λ k. omega arith) (λ k. omega arith) (λ k. omega arith))
      | inr more ↦ elim more [
        | inl z ↦ let second : x ≡ 1 = z.0 in let low : y ≡ 0 = z.1 in
            absurd (no_place (v * 4 + x) other (λ k. omega arith) (λ k. omega arith) (λ k. omega arith) (λ k. omega arith))
        | inr most ↦ elim most [
          | inl z ↦ let one : v ≡ 1 = omega (arith, z.1) in
              subst (λ k. IsDown crossing (variant_at crossing.tiles (number_at four_tiles x y)) (variant_at crossing.tiles (number_at four_tiles x k))) (sym one)
              (at (λ i j. IsDown crossing (variant_at crossing.tiles (number_at four_tiles i j)) (variant_at crossing.tiles (number_at four_tiles i 1))) x y 3 0 z (0, omega arith, refl))
          | inr z ↦ absurd (omega (arith, z.1))
        ]
      ]
    ]

-- the map is legal, with a pin
pub four_are_legal : IsLegalTileMap crossing four_places false (kept_pin 1 0 9 ∷ []) four_tiles
four_are_legal = record {
  sized = IsSized-raster_of 4 2 (5 ∷ 9 ∷ HOLE ∷ 10 ∷ HOLE ∷ HOLE ∷ HOLE ∷ 4 ∷ []) (record { some_column = omega arith; some_row = omega arith; as_many = refl });
  filled = filled_at;
  holes = holes_at;
  across = across_at;
  down = down_at;
  held = All-cons (λ pin. IsPlace four_places pin.column pin.row × IsHeld four_tiles pin) (kept_pin 1 0 9) []
      ((1, omega arith, refl), record { column_in = omega arith; row_in = omega arith; number = refl })
      (All-nil (λ pin. IsPlace four_places pin.column pin.row × IsHeld four_tiles pin));
}

-- two variants side by side, or one above the other, that may not stand so
pub refused_across : (set : TileSetView) (v w : ℕ) → may_be_left set v w ≡ false → IsAcross set (variant_at set.tiles v) (variant_at set.tiles w) → ⊥
refused_across set v w refused allowed = false≢true (sym refused ∙ has_the_pair (across_pairs set) _ _ allowed)

pub refused_down : (set : TileSetView) (v w : ℕ) → may_be_above set v w ≡ false → IsDown set (variant_at set.tiles v) (variant_at set.tiles w) → ⊥
refused_down set v w refused allowed = false≢true (sym refused ∙ has_the_pair (down_pairs set) _ _ allowed)
