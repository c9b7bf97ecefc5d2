-- The texts of a command that ends without a fault of its input.
use Rattle.std.specs.Prelude.{ℕ, List, ◌++◌, codes, decimal}

-- the run ended and showed that no map exists
abbrev pub no_map_text : List ℕ
no_map_text = codes "no map"

-- a map was found where it was to be shown that there is none
abbrev pub map_exists_text : List ℕ
map_exists_text = codes "map exists"

-- some cell has no value before the first step, so that no domains are consistent
abbrev pub no_domains_text : List ℕ
no_domains_text = codes "no consistent domains"

-- as many choices were taken back as the budget allows, and no end was reached
abbrev pub text_of_budget : ℕ → List ℕ
text_of_budget budget = codes "budget spent budget=" ++ decimal budget

-- the answer could not be written
abbrev pub out_failed_text : List ℕ
out_failed_text = codes "device Failed out"

-- memory ran out
abbrev pub no_memory_text : List ℕ
no_memory_text = codes "out of memory"
