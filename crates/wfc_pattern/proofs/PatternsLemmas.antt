-- Where a window stands among patterns, no two of which are one.
use Rattle.std.proofs.Common.{◌≡◌, ℕ, List, [], get_or, slice_get, position, Option, None, Some, Contains, IsNone, IfSome, ◌↔◌, refl, sym, ap, ◌∙◌, nat_eq}
use Rattle.std.specs.List.{IsDistinct}
use Rattle.std.proofs.lemmas.Bool.{false≢true}
use Rattle.std.proofs.lemmas.Map.Made.{IsDistinct-from_AllPairs}
use Rattle.std.proofs.lemmas.Option.{slice_get_within, get_or_from_slice_get}
use Rattle.std.specs.Cmp.Lexicographic.{pointwise}
use Rattle.wfc_lists.proofs.Positions.{stands_at, there_at, own_place, position_fails}
use Rattle.wfc_model.proofs.LearnedLemmas.{same_window-Decides}
use Rattle.wfc_pattern.specs.Patterns.{AreDifferent}
use Rattle.wfc_pattern.proofs.TallyLemmas.{sound, whole}

-- at the place where a window is found, it stands
pub found_there : (ws : List (List ℕ)) (w : List ℕ) (o : Option ℕ) → o ≡ position (pointwise nat_eq w) ws → IfSome o (λ p. slice_get ws p ≡ Some w)
found_there ws w None is = tt
found_there ws w (Some p) is = stands_at (pointwise nat_eq) sound whole w ws p (sym is)

-- a window that stands somewhere is found there
pub found_again : (ws : List (List ℕ)) (w : List ℕ) (o : Option ℕ) → AreDifferent ws → o ≡ position (pointwise nat_eq w) ws → (p : ℕ) → slice_get ws p ≡ Some w → o ≡ Some p
found_again ws w o different is p at =
    let apart : IsDistinct (pointwise nat_eq) ws = IsDistinct-from_AllPairs same_window-Decides ws different in
    let stands : get_or ws p [] ≡ w = get_or_from_slice_get ws p w [] at in
    is ∙ ap (λ v. position (pointwise nat_eq v) ws) (sym stands) ∙ own_place (pointwise nat_eq) sound whole ws p [] apart (slice_get_within ws p w at)

-- it isn't found exactly where it isn't there
pub not_found : (ws : List (List ℕ)) (w : List ℕ) (o : Option ℕ) → o ≡ position (pointwise nat_eq w) ws → IsNone o ↔ ¬ Contains ws w
not_found ws w None is =
    (λ none has. false≢true (sym (position_fails (pointwise nat_eq w) ws (sym is) has.0 w has.1) ∙ ap (pointwise nat_eq w) has.2 ∙ whole w), λ missing. refl)
not_found ws w (Some p) is = (λ e has. false≢true (sym e), λ missing. absurd (missing (there_at (pointwise nat_eq) sound whole w ws p (sym is))))
