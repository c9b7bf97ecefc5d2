-- Tables of what may stand on what: a flag for each two variants, in a row for each lower one.
use Rattle.std.specs.Prelude.{◌≡◌, ℕ, ◌+◌, ◌*◌, ◌<◌, Bool, false, List, length, All, slice_index_or}
use Rattle.wfc_box.specs.Stacks.{is_stacked}

-- both variants of each pair are below the number of variants
abbrev pub AreVariantPairs : ℕ → List (ℕ × ℕ) → Type 0
AreVariantPairs side pairs = All (λ (p : ℕ × ℕ). (p.0 < side) × (p.1 < side)) pairs

-- a table has the flags of these pairs and no others
pub record AreStackFlags (side : ℕ) (pairs : List (ℕ × ℕ)) (flags : List Bool) : Type 0 where
  pub as_long : length flags ≡ side * side
  pub flagged : (l u : ℕ) → l < side → u < side
      → slice_index_or flags (l * side + u) false ≡ is_stacked pairs l u

-- pairs of variants that there are, and their table
pub record IsStackTable (side : ℕ) (pairs : List (ℕ × ℕ)) (flags : List Bool) : Type 0 where
  pub within : AreVariantPairs side pairs
  pub table : AreStackFlags side pairs flags
