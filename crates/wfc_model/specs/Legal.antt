-- Legal pictures: those whose every window is learned from the sample, and in which the pins and
-- bans hold. The first is
-- the condition C1 of the README of WaveFunctionCollapse (Maxim Gumin).
use Rattle.std.specs.Prelude.{◌≡◌, ◌≢◌, ℕ, ◌<◌, ◌≤◌, Bool, true, false, List, All, Contains, MatchBool}
use Rattle.wfc_model.specs.Raster.{Raster, height_of, number_at, IsSized}
use Rattle.wfc_model.specs.Window.{window, places}
use Rattle.wfc_model.specs.Learned.{learned}

-- what a picture is made by: the side of a window, how many images of each are learned, and whether
-- the sample and the output wrap
pub record Rules : Type 0 where
  pub n : ℕ
  pub symmetry : ℕ
  pub wrap_in : Bool
  pub wrap_out : Bool

-- the rules without options: windows as the sample shows them, where neither the sample nor the output wraps
abbrev pub plain_rules : ℕ → Rules
plain_rules n = record { n = n; symmetry = 1; wrap_in = false; wrap_out = false }

-- one line of a pins file: the number is kept at the place, or banned from it
pub record Pin : Type 0 where
  pub keep : Bool
  pub column : ℕ
  pub row : ℕ
  pub number : ℕ

-- the pin that keeps a number at a place
abbrev pub kept_pin : ℕ → ℕ → ℕ → Pin
kept_pin column row number = record { keep = true; column = column; row = row; number = number }

-- and the one that bans it from there
abbrev pub banned_pin : ℕ → ℕ → ℕ → Pin
banned_pin column row number = record { keep = false; column = column; row = row; number = number }

-- the pin's place lies inside the picture, and there a kept number stands and a banned one doesn't
pub record IsHeld (m : Raster) (pin : Pin) : Type 0 where
  pub column_in : pin.column < m.width
  pub row_in : pin.row < height_of m
  pub number : MatchBool pin.keep (number_at m pin.column pin.row ≡ pin.number)
      (number_at m pin.column pin.row ≢ pin.number)

-- of these sides, neither below n; each window is learned from the sample, and each pin is held
pub record IsLegalPicture (sample : Raster) (rules : Rules) (pins : List Pin) (width height : ℕ)
    (m : Raster) : Type 0 where
  pub sized : IsSized m width height
  pub wide : rules.n ≤ width
  pub high : rules.n ≤ height
  pub windows :
      All (λ (place : ℕ × ℕ). Contains (learned sample rules.n rules.symmetry rules.wrap_in) (window m place.0 place.1 rules.n))
      (places width height rules.n rules.wrap_out)
  pub held : All (IsHeld m) pins
