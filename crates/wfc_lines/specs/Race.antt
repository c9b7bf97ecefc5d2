-- The text of a race that is too large.
use Rattle.std.specs.Prelude.{ℕ, List, ◌++◌, codes, decimal}

-- the product of cells, values and seeds is above its limit
abbrev pub text_of_race : ℕ → List ℕ
text_of_race product = codes "race TooLarge product=" ++ decimal product
