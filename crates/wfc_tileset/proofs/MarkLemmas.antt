-- Tables of what is allowed: which flags are set by marking pairs.
use Rattle.std.proofs.Common.{◌≡◌, ℕ, ◌+◌, ◌*◌, ◌/◌, ◌≢◌, ◌%◌, ◌<◌, Bool, true, false, List, [], ◌∷◌, ◌++◌, length, get_or, take, refl, sym, subst, ap, ◌∙◌, arith, replicate}
use Rattle.std.specs.Prelude.{Contains, ◌||◌, ◌==◌, ◌↔◌}
use Rattle.std.specs.List.{flat_map, list_any}
use Rattle.std.proofs.lemmas.Bool.{eqb-true, eq-eqb, false≢true}
use Rattle.std.proofs.lemmas.List.{take_more, length-set, length-replicate, get_or-replicate, get_or-set_same, get_or-set_other, append-nil}
use Rattle.std.proofs.lemmas.Grind.{flat_map-append}
use Rattle.std.proofs.lemmas.List.Sums.{fold-append}
use Rattle.std.proofs.lemmas.Nat.{mul-add-lt, div-mul-add, mod-mul-add}
use Rattle.wfc_lists.proofs.Lists.{Contains_any, any_Contains}
use Rattle.wfc_tileset.specs.Tiles.{TileView, Variant, variant_total, variant_at}
use Rattle.wfc_tileset.specs.Numbers.{variant_number, flag_place, with_flag, all_marked, pair_table, IsVariant}
use Rattle.wfc_tileset.proofs.VariantLemmas.{number_below, variant-number, number-variant}

-- ---- marking more

-- marking leaves a table as long as it was
pub length-all_marked : (tiles : List TileView) (flags : List Bool) (ps : List (Variant × Variant)) → length (all_marked tiles flags ps) ≡ length flags
length-all_marked tiles flags [] = refl
length-all_marked tiles flags (p ∷ ps) = length-all_marked tiles (with_flag tiles flags p) ps ∙ length-set flags (flag_place tiles p) true

pub length-table_of : (tiles : List TileView) (ps : List (Variant × Variant)) → length (pair_table tiles ps) ≡ variant_total tiles * variant_total tiles
length-table_of tiles ps =
    length-all_marked tiles (replicate (variant_total tiles * variant_total tiles) false) ps
    ∙ length-replicate (variant_total tiles * variant_total tiles) false

-- the table of the pairs so far, with what one more element gives
pub table_more : {X : Type 0} (tiles : List TileView) (f : X → List (Variant × Variant)) (xs : List X) (k : ℕ) (x : X) → k < length xs → x ≡ get_or xs k x
    → pair_table tiles (flat_map f (take (k + 1) xs)) ≡ all_marked tiles (pair_table tiles (flat_map f (take k xs))) (f x)
table_more tiles f xs k x below e =
    ap (λ ys. pair_table tiles (flat_map f ys)) (take_more xs k x below)
    ∙ ap (pair_table tiles) (flat_map-append f (take k xs) (get_or xs k x ∷ []))
    ∙ ap (λ ps. pair_table tiles (flat_map f (take k xs) ++ ps)) (append-nil (f (get_or xs k x)))
    ∙ fold-append (with_flag tiles) (replicate (variant_total tiles * variant_total tiles) false) (flat_map f (take k xs)) (f (get_or xs k x))
    ∙ ap (λ y. all_marked tiles (pair_table tiles (flat_map f (take k xs))) (f y)) (sym e)

-- ---- what is set

-- a flag is set if this pair set it, a later one did or it was before
one_more : (this later before then : Bool) → (this ≡ true → then ≡ true) → (this ≡ false → then ≡ before) → (later || then) ≡ ((this || later) || before)
one_more true true before then set_now kept = refl
one_more true false before then set_now kept = set_now refl
one_more false true before then set_now kept = refl
one_more false false before then set_now kept = kept refl

differs : (a b : ℕ) → (a == b) ≡ false → b ≢ a
differs a b e same = false≢true (sym e ∙ eq-eqb a b (sym same))

pub all_marked_at : (tiles : List TileView) (ps : List (Variant × Variant)) (flags : List Bool) (j : ℕ) → j < length flags
    → get_or (all_marked tiles flags ps) j false ≡ (list_any (λ p. flag_place tiles p == j) ps || get_or flags j false)
all_marked_at tiles [] flags j below = refl
all_marked_at tiles (p ∷ ps) flags j below =
    all_marked_at tiles ps (with_flag tiles flags p) j (omega (arith, length-set flags (flag_place tiles p) true))
    ∙ one_more (flag_place tiles p == j) (list_any (λ p. flag_place tiles p == j) ps) (get_or flags j false) (get_or (with_flag tiles flags p) j false)
    (λ same. let at = eqb-true (flag_place tiles p) j same in
    ap (λ n. get_or (with_flag tiles flags p) n false) (sym at) ∙ get_or-set_same flags (flag_place tiles p) true false (let l : flag_place tiles p < length flags = omega (arith, at) in l))
    (λ other. get_or-set_other flags (flag_place tiles p) j true false (differs (flag_place tiles p) j other))

-- a place below the length of a table
place_below : (a b n : ℕ) → a < n → b < n → a * n + b < n * n
place_below a b n in_a in_b = mul-add-lt a n b n in_a in_b

pub table_at : (tiles : List TileView) (ps : List (Variant × Variant)) (a b : ℕ) → a < variant_total tiles → b < variant_total tiles
    → get_or (pair_table tiles ps) (a * variant_total tiles + b) false ≡ list_any (λ p. flag_place tiles p == a * variant_total tiles + b) ps
table_at tiles ps a b in_a in_b =
    let n = variant_total tiles in
    let none = replicate (n * n) false in
    let below : a * n + b < n * n = place_below a b n in_a in_b in
    all_marked_at tiles ps none (a * n + b) (subst (λ l. a * n + b < l) (sym (length-replicate (n * n) false)) below)
    ∙ ap (λ old. list_any (λ p. flag_place tiles p == a * n + b) ps || old) (get_or-replicate (n * n) (a * n + b) false false below)
    ∙ or_false (list_any (λ p. flag_place tiles p == a * n + b) ps)
  where
    or_false : (b : Bool) → (b || false) ≡ b
    or_false true = refl
    or_false false = refl

-- both of a pair are variants
pub record AreVariants (tiles : List TileView) (p : Variant × Variant) : Type 0 where
  pub first : IsVariant tiles p.0
  pub second : IsVariant tiles p.1

number_in : (tiles : List TileView) (v : Variant) → IsVariant tiles v → variant_number tiles v < variant_total tiles
number_in tiles v is = number_below tiles v.0 v.1 is.tile_in is.index_in

-- the row and the column of a place
row_is : (a b c d n : ℕ) → b < n → d < n → a * n + b ≡ c * n + d → a ≡ c
row_is a b c d n in_b in_d e = sym (div-mul-add a n b in_b) ∙ ap (λ k. k / n) e ∙ div-mul-add c n d in_d

column_is : (a b c d n : ℕ) → b < n → d < n → a * n + b ≡ c * n + d → b ≡ d
column_is a b c d n in_b in_d e = sym (mod-mul-add a n b in_b) ∙ ap (λ k. k % n) e ∙ mod-mul-add c n d in_d

abbrev two : Variant → Variant → Variant × Variant
two v w = (v, w)

-- a pair whose place is that of two numbers is the pair of their variants
pair_at : (tiles : List TileView) (p : Variant × Variant) (a b : ℕ) → AreVariants tiles p → b < variant_total tiles
    → flag_place tiles p ≡ a * variant_total tiles + b → p ≡ two (variant_at tiles a) (variant_at tiles b)
pair_at tiles p a b are in_b e =
    let n = variant_total tiles in
    let row = row_is (variant_number tiles p.0) (variant_number tiles p.1) a b n (number_in tiles p.1 are.second) in_b e in
    let column = column_is (variant_number tiles p.0) (variant_number tiles p.1) a b n (number_in tiles p.1 are.second) in_b e in
    ap (λ v. two v p.1) (sym (variant-number tiles p.0 are.first) ∙ ap (variant_at tiles) row)
    ∙ ap (λ w. two (variant_at tiles a) w) (sym (variant-number tiles p.1 are.second) ∙ ap (variant_at tiles) column)

place_at : (tiles : List TileView) (a b : ℕ) → a < variant_total tiles → b < variant_total tiles
    → flag_place tiles (two (variant_at tiles a) (variant_at tiles b)) ≡ a * variant_total tiles + b
place_at tiles a b in_a in_b =
    ap (λ r. r * variant_total tiles + variant_number tiles (variant_at tiles b)) (number-variant tiles a in_a)
    ∙ ap (λ c. a * variant_total tiles + c) (number-variant tiles b in_b)

-- a table has the flag of two numbers exactly where the pair of their variants was marked
pub table_says : (tiles : List TileView) (ps : List (Variant × Variant)) (a b : ℕ) → a < variant_total tiles → b < variant_total tiles
    → ((p : Variant × Variant) → Contains ps p → AreVariants tiles p)
    → (get_or (pair_table tiles ps) (a * variant_total tiles + b) false ≡ true) ↔ Contains ps (two (variant_at tiles a) (variant_at tiles b))
table_says tiles ps a b in_a in_b are =
    let n = variant_total tiles in
    let test = λ (p : Variant × Variant). flag_place tiles p == a * n + b in
    let read = table_at tiles ps a b in_a in_b in (
      (λ on. let found = any_Contains test ps (sym read ∙ on) in
          subst (Contains ps) (pair_at tiles found.0 a b (are found.0 found.1) in_b (eqb-true _ _ found.2)) found.1),
      (λ there. read ∙ Contains_any test ps (two (variant_at tiles a) (variant_at tiles b)) there (eq-eqb _ _ (place_at tiles a b in_a in_b))),
    )
