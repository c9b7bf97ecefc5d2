-- Which variants may stand on which: what each declared stack allows under the eight actions about the upright axis,
-- and nothing else.
use Rattle.std.specs.Prelude.{ℕ, ◌==◌, ◌&&◌, Bool, List, Contains, map}
use Rattle.std.specs.List.{flat_map, list_any, range_with_len}
use Rattle.wfc_tileset.specs.Allowed.{IsPairEnd, named_variant}
use Rattle.wfc_tileset.specs.Numbers.{variant_number}
use Rattle.wfc_tileset.specs.Tiles.{TileView, moved_variant}
use Rattle.wfc_tileset.specs.declared.tile.End.{End}
use Rattle.wfc_box.specs.declared.stack.Stack.{Stack}

-- the number of the variant that action k makes of the one that an end names
abbrev pub turned_end : List TileView → End → ℕ → ℕ
turned_end tiles end k = variant_number tiles (moved_variant tiles (named_variant tiles end) k)

-- the lower and the upper variant of a declared stack, both after action k
abbrev pub turned_stack : List TileView → Stack → ℕ → ℕ × ℕ
turned_stack tiles stack k = (turned_end tiles stack.lower k, turned_end tiles stack.upper k)

-- what a declared stack allows: both after each of the eight actions
abbrev pub stacked_of : List TileView → Stack → List (ℕ × ℕ)
stacked_of tiles stack = map (turned_stack tiles stack) (range_with_len 0 8)

-- all allowed pairs of a lower and an upper variant, by their numbers
abbrev pub stacked_pairs : List TileView → List Stack → List (ℕ × ℕ)
stacked_pairs tiles stacks = flat_map (stacked_of tiles) stacks

-- the upper variant may stand on the lower one
abbrev pub IsStacked : List (ℕ × ℕ) → ℕ → ℕ → Type 0
IsStacked stacked lower upper = Contains stacked (lower, upper)

-- whether it may
abbrev pub is_stacked : List (ℕ × ℕ) → ℕ → ℕ → Bool
is_stacked stacked lower upper = list_any (λ p. p.0 == lower && p.1 == upper) stacked

-- both ends of a stack name a tile and an action
pub record IsStack (tiles : List TileView) (stack : Stack) : Type 0 where
  pub lower_in : IsPairEnd tiles stack.lower
  pub upper_in : IsPairEnd tiles stack.upper
