-- How often each window of a list stood in it so far.
use Rattle.std.specs.Prelude.{ℕ, ◌+◌, List, [], ◌∷◌, map, sum_by, if◌then◌else◌, nat_eq}
use Rattle.std.specs.Cmp.Lexicographic.{pointwise}
use Rattle.wfc_lists.specs.WithoutRepeats.{without_repeats}
use Rattle.wfc_model.specs.Learned.{weight_of}
use Rattle.wfc_pattern.specs.Patterns.{PatternsView}

-- the counts with one more window: where it stood before, its count rises, else it goes last
abbrev pub recount : List (List ℕ × ℕ) → List ℕ → List (List ℕ × ℕ)
recount [] w = (w, 1) ∷ []
recount (e ∷ es) w = if pointwise nat_eq w e.0 then (e.0, e.1 + 1) ∷ es else e ∷ recount es w

-- all counts together
abbrev pub total : List (List ℕ × ℕ) → ℕ
total es = sum_by (λ e. e.1) es

-- the windows of a list, each once, with its number of times
abbrev pub window_counts : List (List ℕ) → List (List ℕ × ℕ)
window_counts ws = map (λ (w : List ℕ). (w, weight_of ws w)) (without_repeats (pointwise nat_eq) ws)

-- the windows alone, in their order
abbrev pub windows_of : List (List ℕ × ℕ) → List (List ℕ)
windows_of es = map (λ (e : List ℕ × ℕ). e.0) es

-- how often each of them stood in the list, in the same order
abbrev pub weights_of : List (List ℕ × ℕ) → List ℕ
weights_of es = map (λ (e : List ℕ × ℕ). e.1) es

-- both as patterns
abbrev pub patterns_from : ℕ → List (List ℕ × ℕ) → PatternsView
patterns_from n es = record { n = n; windows = windows_of es; weights = weights_of es }
