-- When two patterns agree in a direction.
use Rattle.std.specs.Prelude.{◌≡◌, ℕ, ◌+◌, ◌-◌, ◌*◌, ◌/◌, ◌%◌, ◌<◌, Bool, not, ◌==◌, ◌&&◌, ◌||◌, nat_le, nat_lt, List}
use Rattle.std.specs.List.{list_all, range_with_len}
use Rattle.wfc_model.specs.Direction.{left_by, down_by, right_by, up_by, IsStep}
use Rattle.wfc_model.specs.Image.{cell_at}

-- q, moved by one step, has the same numbers as p wherever both have one
abbrev pub Agrees : ℕ → List ℕ → List ℕ → ℕ → Type 0
Agrees n p q direction =
    (i j a b : ℕ) → i < n → j < n → a < n → b < n → IsStep direction a b i j
    → cell_at n p i j ≡ cell_at n q a b

-- whether they do at (i, j): where q has a number one step back, it is that of p
abbrev pub agrees_at : ℕ → List ℕ → List ℕ → ℕ → ℕ → ℕ → Bool
agrees_at n p q direction i j =
    let a = i + left_by direction - right_by direction in
    let b = j + up_by direction - down_by direction in
    let inside =
    nat_le (right_by direction) (i + left_by direction)
    && nat_le (down_by direction) (j + up_by direction) && nat_lt a n && nat_lt b n in
    not inside || (cell_at n p i j == cell_at n q a b)

-- whether they do everywhere
abbrev pub agrees : ℕ → List ℕ → List ℕ → ℕ → Bool
agrees n p q direction = list_all (λ k. agrees_at n p q direction (k % n) (k / n)) (range_with_len 0 (n * n))

-- the numbers of p without its first columns and rows are those of q without its last ones
abbrev pub IsOverlap : ℕ → List ℕ → List ℕ → ℕ → ℕ → Type 0
IsOverlap n p q right down =
    (i j : ℕ) → i + right < n → j + down < n → cell_at n p (i + right) (j + down) ≡ cell_at n q i j
