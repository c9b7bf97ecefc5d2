-- Pictures and pins with other numbers in place of theirs, as a palette and its symbols are.
use Rattle.std.specs.Prelude.{◌≡◌, ◌↔◌, ℕ, ◌<◌, List, map, All, Contains}
use Rattle.wfc_model.specs.Raster.{Raster, IsRaster, IsSized, numbers_of}
use Rattle.wfc_model.specs.Legal.{Rules, Pin, IsLegalPicture}

-- the picture with f x wherever it has x
abbrev pub renumbered_picture : (ℕ → ℕ) → Raster → Raster
renumbered_picture f m = record { width = m.width; rows = map (map f) m.rows }

-- the pin at the same place for f x in place of x
abbrev pub renumbered_pin : (ℕ → ℕ) → Pin → Pin
renumbered_pin f pin = record pin { number = f pin.number }

-- each number of the picture is one of the sample
abbrev pub IsKnown : Raster → Raster → Type 0
IsKnown sample m = All (Contains (numbers_of sample)) (numbers_of m)

-- no two numbers of the sample are given the same, and each pin names a number of the sample
pub record IsRenumbering (f : ℕ → ℕ) (sample : Raster) (pins : List Pin) : Type 0 where
  pub raster : IsRaster sample
  pub one_to_one : (x y : ℕ) → Contains (numbers_of sample) x → Contains (numbers_of sample) y → f x ≡ f y → x ≡ y
  pub known : All (λ (pin : Pin). Contains (numbers_of sample) pin.number) pins

-- the picture is legal for the sample and the pins, both renumbered
abbrev pub IsLegalRenumbered : (ℕ → ℕ) → Raster → Rules → List Pin → ℕ → ℕ → Raster → Type 0
IsLegalRenumbered f sample rules pins width height m =
    IsLegalPicture (renumbered_picture f sample) rules (map (renumbered_pin f) pins) width height m

-- a picture of the sample's numbers is legal exactly where it is when all are renumbered
abbrev pub KeepsLegality : (ℕ → ℕ) → Raster → List Pin → Type 0
KeepsLegality f sample pins =
    (m : Raster) (rules : Rules) (width height : ℕ) → IsSized m width height → IsKnown sample m
    → IsLegalPicture sample rules pins width height m ↔ IsLegalRenumbered f sample rules pins
    width height (renumbered_picture f m)

-- a legal picture of the sample's numbers that becomes m when it is renumbered
abbrev pub HasSource : (ℕ → ℕ) → Raster → Rules → List Pin → ℕ → ℕ → Raster → Type 0
HasSource f sample rules pins width height m =
    (source : Raster) × (renumbered_picture f source ≡ m) × IsKnown sample source
    × IsLegalPicture sample rules pins width height source

-- each picture that is legal when all are renumbered comes from one that was legal before
abbrev pub LosesNone : (ℕ → ℕ) → Raster → List Pin → Type 0
LosesNone f sample pins = (m : Raster) (rules : Rules) (width height : ℕ) → 0 < rules.n
    → IsLegalRenumbered f sample rules pins width height m → HasSource f sample rules pins width height m
