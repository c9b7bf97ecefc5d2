-- The classes of tiles, and the eight actions of the square on the variants of a class.
use Rattle.std.specs.Prelude.{ℕ, zero, suc, ◌+◌, ◌-◌, ◌*◌, ◌/◌, ◌%◌, ◌==◌, nat_lt, List, if◌then◌else◌}
use Rattle.wfc_model.specs.Image.{image}
use Rattle.wfc_symmetry.specs.declared.class.Class.{Class}
use Rattle.wfc_symmetry.specs.declared.class.Class.TheVariants.{X, I, L, T, F, Slash}

-- how many variants a tile of the class has
abbrev pub variant_count : Class → ℕ
variant_count X = 1
variant_count I = 2
variant_count Slash = 2
variant_count L = 4
variant_count T = 4
variant_count F = 8

-- what a variant becomes by a quarter turn
abbrev pub turned_variant : Class → ℕ → ℕ
turned_variant X i = i
turned_variant I i = 1 - i
turned_variant Slash i = 1 - i
turned_variant L i = (i + 1) % 4
turned_variant T i = (i + 1) % 4
turned_variant F i = if nat_lt i 4 then (i + 1) % 4 else 4 + (i - 1) % 4

-- what a variant becomes by a reflection
abbrev pub reflected_variant : Class → ℕ → ℕ
reflected_variant X i = i
reflected_variant I i = i
reflected_variant Slash i = 1 - i
reflected_variant L i = if i % 2 == 0 then i + 1 else i - 1
reflected_variant T i = if i % 2 == 0 then i else 4 - i
reflected_variant F i = if nat_lt i 4 then i + 4 else i - 4

-- what it becomes by so many quarter turns
abbrev pub turned_by : Class → ℕ → ℕ → ℕ
turned_by class i zero = i
turned_by class i (suc turns) = turned_variant class (turned_by class i turns)

-- what it becomes by action k: as many quarter turns as k, or from 4 on a reflection behind k - 4 of them
abbrev pub variant_by_action : Class → ℕ → ℕ → ℕ
variant_by_action class i k = if nat_lt k 4 then turned_by class i k else reflected_variant class (turned_by class i (k - 4))

-- the action that is one action behind another: a reflection behind turns turns them round
abbrev pub action_behind : ℕ → ℕ → ℕ
action_behind second first =
    if nat_lt first 4 then second / 4 * 4 + (second + first) % 4
    else (second / 4 + 1) % 2 * 4 + (first + 4 - second % 4) % 4

-- the image of a window that an action makes: two images for each quarter turn, the reflected one second
abbrev pub image_number : ℕ → ℕ
image_number k = k % 4 * 2 + k / 4

-- a window of n by n numbers after an action
abbrev pub acted_image : ℕ → List ℕ → ℕ → List ℕ
acted_image n w k = image n w (image_number k)
