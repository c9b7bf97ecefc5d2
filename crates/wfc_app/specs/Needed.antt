-- How many choosers of each kind a command line needs.
use Rattle.std.specs.Prelude.{Bool, bytes_eq, codes, List, [], ◌∷◌, ◌||◌, if◌then◌else◌, ℕ}

-- whether a word names a command of several runs, each with a chooser of its own: one for each seed, list of lines or block
abbrev pub makes_several_runs : List ℕ → Bool
makes_several_runs name = bytes_eq name (codes "race") || bytes_eq name (codes "explain") || bytes_eq name (codes "grow")

-- 65 where the first word names such a command, else one
abbrev pub needed_choosers : List (List ℕ) → ℕ
needed_choosers [] = 1
needed_choosers (name ∷ words) = if makes_several_runs name then 65 else 1
