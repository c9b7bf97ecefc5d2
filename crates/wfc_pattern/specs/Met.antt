-- Where the windows of a tally stand, and the windows that were met with the places of their images.
use Rattle.std.specs.Prelude.{◌≡◌, ℕ, ⊤, List, [], ◌∷◌, map, slice_index_or, slice_get, Some, Vec}
use Rattle.std.specs.Coded.{Coded-set, coded_option, coded_list, coded_ℕ, ×_prop, Unit-prop}
use Rattle.std.specs.List.{AllByRecursion, AllByRecursion-prop, range_with_len}
use Rattle.wfc_model.specs.Image.{image}
use Rattle.wfc_pattern.specs.Tally.{windows_of}

-- the first s images of a window of n by n numbers
abbrev pub first_images : ℕ → ℕ → List ℕ → List (List ℕ)
first_images n s w = map (image n w) (range_with_len 0 s)

-- the window at a place of a tally
abbrev pub noted_at : List (List ℕ × ℕ) → ℕ → List ℕ
noted_at es at = slice_index_or (windows_of es) at []

-- the window stands at this place of the tally
abbrev pub StandsAt : List (List ℕ × ℕ) → ℕ → List ℕ → Type 0
StandsAt es at w = slice_get (windows_of es) at ≡ Some w

-- each window stands where it stood
abbrev pub HasKept : List (List ℕ × ℕ) → List (List ℕ × ℕ) → Type 0
HasKept old new = (at : ℕ) (w : List ℕ) → StandsAt old at w → StandsAt new at w

-- at these places of the tally stand these windows, in the same order
abbrev pub ArePlacesOf : List (List ℕ × ℕ) → List ℕ → List (List ℕ) → Type 0
ArePlacesOf es [] [] = ⊤
ArePlacesOf es [] (w ∷ ws) = ⊥
ArePlacesOf es (at ∷ ats) [] = ⊥
ArePlacesOf es (at ∷ ats) (w ∷ ws) = StandsAt es at w × ArePlacesOf es ats ws

-- the windows and the places that a map's entries hold
abbrev pub entries_met : {Y Z : Type 0} → List (Vec ℕ Z × Vec ℕ Y) → List (List ℕ × List ℕ)
entries_met es = map (λ e. (e.0.items, e.1.items)) es

-- each window that was met has the places of its first s images beside it
abbrev pub AreMet : ℕ → ℕ → List (List ℕ × ℕ) → List (List ℕ × List ℕ) → Type 0
AreMet n s es met = AllByRecursion (λ e. ArePlacesOf es e.1 (first_images n s e.0)) met

-- this is a fact, which a field of proofs alone may hold
ArePlacesOf-prop : (es : List (List ℕ × ℕ)) (ats : List ℕ) (ws : List (List ℕ)) → IsProp (ArePlacesOf es ats ws)
ArePlacesOf-prop es [] [] = Unit-prop
ArePlacesOf-prop es [] (w ∷ ws) = λ p q. absurd p
ArePlacesOf-prop es (at ∷ ats) [] = λ p q. absurd p
ArePlacesOf-prop es (at ∷ ats) (w ∷ ws) =
    ×_prop (Coded-set (coded_option (coded_list coded_ℕ)) (slice_get (windows_of es) at) (Some w)) (ArePlacesOf-prop es ats ws)

-- and so is that of all windows that were met
pub AreMet-prop : (n s : ℕ) (es : List (List ℕ × ℕ)) (met : List (List ℕ × List ℕ)) → IsProp (AreMet n s es met)
AreMet-prop n s es met =
    AllByRecursion-prop (λ e. ArePlacesOf es e.1 (first_images n s e.0)) (λ e. ArePlacesOf-prop es e.1 (first_images n s e.0)) met
