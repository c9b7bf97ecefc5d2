-- What the code makes a problem of: its parts.
use Rattle.std.proofs.Common.{◌≡◌, ℕ, Bool, true, ◌&&◌, List, [], ◌∷◌, length, map, refl, ap, ◌∙◌}
use Rattle.std.specs.List.{flat_map, list_all, range_with_len}
use Rattle.std.proofs.lemmas.List.Folds.{list_all-append}
use Rattle.wfc_model.specs.Window.{places}
use Rattle.wfc_pattern.specs.Patterns.{PatternsView}
use Rattle.wfc_problem.specs.Network.{Network, IsProblem}
use Rattle.wfc_problem.specs.Whole.{network_of}
use Rattle.wfc_problem.proofs.CallerLemmas.{whole_is}
use Rattle.wfc_overlap.specs.Sample.{Output, agreeing_patterns, window_beside, window_meets_pins, problem_of_sample}

-- problems with the same parts are the same
same_network : (a b : Network) → a.cells ≡ b.cells → a.dirs ≡ b.dirs → a.neighbours ≡ b.neighbours → a.weights ≡ b.weights → a.supports ≡ b.supports → a.base ≡ b.base → a ≡ b
same_network a b cells dirs neighbours weights supports base = λ i. record {
  cells = cells i;
  dirs = dirs i;
  neighbours = neighbours i;
  weights = weights i;
  supports = supports i;
  base = base i;
}

-- the parts of a sample's problem with some base, with the side of windows by another name
pub parts_are : (patterns : PatternsView) (output : Output) (base : List Bool) (n : ℕ) (a : Network) → n ≡ patterns.n
    → a.cells ≡ length (places output.width output.height n output.wrap) → a.dirs ≡ 4
    → a.neighbours ≡ flat_map (λ place. map (λ d. window_beside n output place d) (range_with_len 0 4)) (places output.width output.height n output.wrap)
    → a.weights ≡ patterns.weights → a.supports ≡ flat_map (λ p. map (agreeing_patterns patterns p) (range_with_len 0 4)) (range_with_len 0 (length patterns.windows))
    → a.base ≡ base → a ≡ record (problem_of_sample patterns output []) { base = base }
parts_are patterns output base n a n_is cells dirs neighbours weights supports base_is =
    same_network a (record (problem_of_sample patterns output []) { base = base }) (cells ∙ ap (λ k. length (places output.width output.height k output.wrap)) n_is) dirs
    (neighbours ∙ ap (λ k. flat_map (λ place. map (λ d. window_beside k output place d) (range_with_len 0 4)) (places output.width output.height k output.wrap)) n_is) weights supports base_is

-- where nothing is pinned, each window meets all pins
row_meets : (n : ℕ) (output : Output) (place : ℕ × ℕ) (windows : List (List ℕ)) → list_all (λ flag. flag) (map (λ w. window_meets_pins n output place w []) windows) ≡ true
row_meets n output place [] = refl
row_meets n output place (w ∷ windows) = row_meets n output place windows

all_meet : (n : ℕ) (output : Output) (windows : List (List ℕ)) (ps : List (ℕ × ℕ)) → list_all (λ flag. flag) (flat_map (λ place. map (λ w. window_meets_pins n output place w []) windows) ps) ≡ true
all_meet n output windows [] = refl
all_meet n output windows (p ∷ ps) =
    let rest = flat_map (λ place. map (λ w. window_meets_pins n output place w []) windows) ps in
    list_all-append (λ flag. flag) (map (λ w. window_meets_pins n output p w []) windows) rest
    ∙ ap (λ b. b && list_all (λ flag. flag) rest) (row_meets n output p windows)
    ∙ all_meet n output windows ps

-- so the base is whole, and its flags need not be there
pub whole_without_pins : (patterns : PatternsView) (output : Output) → IsProblem (problem_of_sample patterns output []) → network_of true (problem_of_sample patterns output []) ≡ problem_of_sample patterns output []
whole_without_pins patterns output p =
    whole_is (problem_of_sample patterns output []) p (all_meet patterns.n output patterns.windows (places output.width output.height patterns.n output.wrap))
