-- The laws of pictures and assignments, for the patterns that a sample teaches by rules.
use Rattle.std.proofs.Common.{◌↔◌, ℕ, ◌≤◌, Bool, List, sym, subst}
use Rattle.std.specs.Prelude.{Contains, All}
use Rattle.wfc_model.specs.Raster.{Raster}
use Rattle.wfc_model.specs.Window.{window, places}
use Rattle.wfc_model.specs.Legal.{Pin, Rules, IsLegalPicture}
use Rattle.wfc_pattern.specs.Patterns.{PatternsView, IsPatterns}
use Rattle.wfc_problem.specs.Assignment.{IsLegalAssignment}
use Rattle.wfc_overlap.specs.Sample.{Output, problem_of_sample}
use Rattle.wfc_overlap.specs.Bridge.{IsRoom, IsTaughtBy, AreInside, numbers_of_windows, picture_of}
use Rattle.wfc_overlap.proofs.ThereLemmas.{numbers_are_legal}
use Rattle.wfc_overlap.proofs.BackLemmas.{sized, windows_are_patterns, pins_hold}

-- all windows of a picture are among these, for windows of side n
abbrev pub AreAmong : List (List ℕ) → Output → Raster → ℕ → Bool → Type 0
AreAmong windows output m n wrap = All (λ (place : ℕ × ℕ). Contains windows (window m place.0 place.1 n)) (places output.width output.height n wrap)

-- the windows of a legal picture are among the patterns
pub among : (sample : Raster) (rules : Rules) (patterns : PatternsView) (output : Output) (pins : List Pin) (m : Raster) → IsTaughtBy sample rules patterns output → IsLegalPicture sample rules pins output.width output.height m → AreAmong patterns.windows output m patterns.n output.wrap
among sample rules patterns output pins m by legal =
    subst (λ n. AreAmong patterns.windows output m n output.wrap) (sym by.same_side)
    (subst (λ wrap. AreAmong patterns.windows output m rules.n wrap) (sym by.same_wrap)
    (subst (λ windows. AreAmong windows output m rules.n rules.wrap_out) (sym by.windows) legal.windows))

-- the numbers of a legal picture's windows are a legal assignment
pub there : (sample : Raster) (rules : Rules) (patterns : PatternsView) (output : Output) (pins : List Pin) (m : Raster) → IsPatterns patterns → IsTaughtBy sample rules patterns output → IsLegalPicture sample rules pins output.width output.height m → IsLegalAssignment (problem_of_sample patterns output pins) (numbers_of_windows patterns output m)
there sample rules patterns output pins m taught by legal =
    numbers_are_legal patterns output pins m taught legal.sized (among sample rules patterns output pins m by legal) legal.held

-- the picture of a legal assignment is legal
pub back : (sample : Raster) (rules : Rules) (patterns : PatternsView) (output : Output) (pins : List Pin) (a : List ℕ) → IsPatterns patterns → IsRoom patterns output → IsTaughtBy sample rules patterns output → AreInside output pins → IsLegalAssignment (problem_of_sample patterns output pins) a → IsLegalPicture sample rules pins output.width output.height (picture_of patterns output a)
back sample rules patterns output pins a taught room by inside legal = record {
  sized = sized patterns output pins a taught room legal;
  wide = subst (λ n. n ≤ output.width) by.same_side room.wide;
  high = subst (λ n. n ≤ output.height) by.same_side room.high;
  windows =
      subst (λ windows. AreAmong windows output (picture_of patterns output a) rules.n rules.wrap_out) by.windows
      (subst (λ wrap. AreAmong patterns.windows output (picture_of patterns output a) rules.n wrap) by.same_wrap
      (subst (λ n. AreAmong patterns.windows output (picture_of patterns output a) n output.wrap) by.same_side (windows_are_patterns patterns output pins a taught room legal)));
  held = pins_hold patterns output pins a taught room legal inside;
}

-- a legal picture exists exactly where a legal assignment does
pub exactly : (sample : Raster) (rules : Rules) (patterns : PatternsView) (output : Output) (pins : List Pin) → IsPatterns patterns → IsRoom patterns output → IsTaughtBy sample rules patterns output → AreInside output pins
    → ((m : Raster) × IsLegalPicture sample rules pins output.width output.height m) ↔ ((a : List ℕ) × IsLegalAssignment (problem_of_sample patterns output pins) a)
exactly sample rules patterns output pins taught room by inside = (
  λ found. (numbers_of_windows patterns output found.0, there sample rules patterns output pins found.0 taught by found.1),
  λ found. (picture_of patterns output found.0, back sample rules patterns output pins found.0 taught room by inside found.1),
)
