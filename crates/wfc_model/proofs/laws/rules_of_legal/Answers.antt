use Rattle.std.proofs.Common.{ℕ, true, false, [], ◌∷◌, lit<, refl, arith}
use Rattle.std.specs.List.{Contains}
use Rattle.std.proofs.lemmas.List.Elements.{All-nil, All-from_recursion}
use Rattle.wfc_model.specs.Learned.{learned}
use Rattle.wfc_model.specs.Legal.{IsHeld}
use Rattle.wfc_model.specs.Raster.{raster_of}
use Rattle.wfc_model.specs.Small.{six}
use Rattle.wfc_model.specs.Window.{places, window}
use Rattle.wfc_model.proofs.RasterLemmas.{IsSized-raster_of}
use Rattle.wfc_model.proofs.SmallLemmas.{not_learned}
use Rattle.wfc_model.proofs.laws.rules_of_legal.Goals as goal

pub returns-clause-wraps_out : goal.returns-clause-wraps_out
returns-clause-wraps_out c legal = not_learned (legal.windows 1 (0, 0) (lit< tt))

pub returns-clause-wraps_single : goal.returns-clause-wraps_single
returns-clause-wraps_single c = record {
  sized = IsSized-raster_of 2 1 (2 ∷ 1 ∷ []) (record { some_column = omega arith; some_row = omega arith; as_many = refl });
  wide = omega arith;
  high = omega arith;
  windows =
      All-from_recursion (λ (place : ℕ × ℕ). Contains (learned six 1 1 false) (window (raster_of 2 1 (2 ∷ 1 ∷ [])) place.0 place.1 1)) (places 2 1 1 true)
      ((1, lit< tt, refl), ((0, lit< tt, refl), tt));
  held = All-nil (IsHeld (raster_of 2 1 (2 ∷ 1 ∷ [])));
}
