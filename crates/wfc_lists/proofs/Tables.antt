-- Tables row by row: their length, and the entry in a row and a column.
use Rattle.std.proofs.Common.{◌≡◌, ℕ, zero, suc, ◌+◌, ◌*◌, ◌<◌, ◌≤◌, List, [], ◌∷◌, ◌++◌, length, get_or, ap, ◌∙◌, arith, length-append, inl, inr}
use Rattle.std.specs.List.{flat_map}
use Rattle.std.proofs.Math.Nat.{mul-le-mul_right}
use Rattle.std.proofs.lemmas.Bool.{cases_lt}
use Rattle.std.proofs.lemmas.List.{get_or_append_left, get_or-append-add}

-- rows of k entries each have k times as many as there are rows
pub length-table : {X Y : Type 0} (g : X → List Y) (k : ℕ) → ((x : X) → length (g x) ≡ k) → (xs : List X) → length (flat_map g xs) ≡ length xs * k
length-table g k long [] = omega arith
length-table g k long (x ∷ xs) =
    let more = length-table g k long xs in
    let next : suc (length xs) * k ≡ k + length xs * k = omega arith in
    omega (arith, length-append (g x) (flat_map g xs), long x)

-- entry j of row i stands at i * k + j
pub table-at : {X Y : Type 0} (g : X → List Y) (k : ℕ) → ((x : X) → length (g x) ≡ k) → (xs : List X) (i j : ℕ) (x0 : X) (y0 : Y) → i < length xs → j < k → get_or (flat_map g xs) (i * k + j) y0 ≡ get_or (g (get_or xs i x0)) j y0
table-at g k long [] i j x0 y0 row column = absurd (omega arith)
table-at g k long (x ∷ xs) zero j x0 y0 row column =
    let first : 0 * k + j ≡ j = omega arith in
    ap (λ m. get_or (g x ++ flat_map g xs) m y0) first ∙ get_or_append_left (g x) (flat_map g xs) y0 j (omega (arith, long x))
table-at g k long (x ∷ xs) (suc i) j x0 y0 row column =
    let next : suc i * k + j ≡ length (g x) + (i * k + j) = omega (arith, long x) in
    ap (λ m. get_or (g x ++ flat_map g xs) m y0) next ∙ get_or-append-add (g x) (flat_map g xs) (i * k + j) y0 ∙ table-at g k long xs i j x0 y0 (omega arith) column

-- a place of a table with so many columns lies in a row that there is
pub row_below : (r c columns rows : ℕ) → r * columns + c < rows * columns → r < rows
row_below r c columns rows l = elim (cases_lt r rows) [
  | inl m ↦ m
  | inr ge ↦ let le : rows * columns ≤ r * columns = mul-le-mul_right columns ge in absurd (omega arith)
]
