-- The texts of a map that is grown block by block.
use Rattle.std.specs.Prelude.{List, codes, decimal, ℕ, ◌++◌}

-- so many blocks are too many
abbrev pub text_of_many_blocks : ℕ → List ℕ
text_of_many_blocks count = codes "grow TooManyBlocks count=" ++ decimal count

-- no map fills the block that begins in this column and row
abbrev pub text_of_stuck : ℕ → ℕ → List ℕ
text_of_stuck x y = codes "grow stuck x=" ++ decimal x ++ (codes " y=" ++ decimal y)
