-- Variants and their numbers: each is the other's.
use Rattle.std.proofs.Common.{◌≡◌, ℕ, zero, suc, ◌+◌, ◌-◌, ◌<◌, ◌≤◌, List, [], ◌∷◌, ◌++◌, length, get_or, map, take, refl, sym, subst, ap, ◌∙◌, arith, inl, inr, length-append, append_assoc}
use Rattle.std.specs.List.{range_with_len}
use Rattle.std.proofs.lemmas.Bool.{cases_lt}
use Rattle.std.proofs.lemmas.List.{get_or_append_left, get_or-append-add, get_or_default, take_more, length-take, append-nil}
use Rattle.std.proofs.lemmas.List.FromFn.{length-map-range_with_len, get_or-map-range_with_len, map-range_with_len_more}
use Rattle.std.proofs.lemmas.List.Sums.{sum_by-cons}
use Rattle.wfc_tileset.specs.Tiles.{TileView, Variant, variants_from, variants, variant_total, variants_of_tile, tile_at, variant_at}
use Rattle.wfc_tileset.specs.declared.variants.TheConstants.{MAX_VARIANTS}
use Rattle.wfc_tileset.specs.Numbers.{tile_start, variant_number, IsVariant, IsNumbered}
use Rattle.wfc_tileset.proofs.AllowedLemmas.{some_of}

-- the variants of one tile
abbrev pub row_of : ℕ → TileView → List Variant
row_of t tile = map (λ i. (t, i)) (range_with_len 0 (variants_of_tile tile))

pub length-row : (t : ℕ) (tile : TileView) → length (row_of t tile) ≡ variants_of_tile tile
length-row t tile = length-map-range_with_len (λ i. let p : Variant = (t, i) in p) 0 (variants_of_tile tile)

-- there are as many variants as all tiles have
pub length-variants_from : (s : ℕ) (xs : List TileView) → length (variants_from s xs) ≡ variant_total xs
length-variants_from s [] = refl
length-variants_from s (x ∷ xs) =
    omega (arith, length-append (row_of s x) (variants_from (s + 1) xs), length-row s x, length-variants_from (s + 1) xs, sum_by-cons variants_of_tile x xs)

-- the tiles are no more than their variants
pub few_tiles : (xs : List TileView) → length xs ≤ variant_total xs
few_tiles [] = omega arith
few_tiles (x ∷ xs) = omega (arith, few_tiles xs, some_of x.class, sum_by-cons variants_of_tile x xs)

-- the number of the first variant, behind one more tile
pub first-suc : (x : TileView) (xs : List TileView) (t : ℕ) → tile_start (x ∷ xs) (suc t) ≡ variants_of_tile x + tile_start xs t
first-suc x xs t = sum_by-cons variants_of_tile x (take t xs)

-- a variant stands at its number
pub variant-at-number : (s : ℕ) (xs : List TileView) (t i : ℕ) (d : Variant) → t < length xs → i < variants_of_tile (tile_at xs t)
    → get_or (variants_from s xs) (tile_start xs t + i) d ≡ (s + t, i)
variant-at-number s [] t i d in_t in_i = absurd (omega arith)
variant-at-number s (x ∷ xs) zero i d in_t in_i =
    ap (λ n. get_or (row_of s x ++ variants_from (s + 1) xs) n d) (let k : 0 + i ≡ i = omega arith in k)
    ∙ get_or_append_left (row_of s x) (variants_from (s + 1) xs) d i (omega (arith, length-row s x))
    ∙ get_or-map-range_with_len (λ i. let p : Variant = (s, i) in p) 0 (variants_of_tile x) i i d in_i (omega arith)
    ∙ ap (λ t. let p : Variant = (t, i) in p) (let k : s ≡ s + 0 = omega arith in k)
variant-at-number s (x ∷ xs) (suc t) i d in_t in_i =
    ap (λ n. get_or (row_of s x ++ variants_from (s + 1) xs) n d)
    (let k : tile_start (x ∷ xs) (suc t) + i ≡ length (row_of s x) + (tile_start xs t + i) = omega (arith, first-suc x xs t, length-row s x) in k)
    ∙ get_or-append-add (row_of s x) (variants_from (s + 1) xs) (tile_start xs t + i) d
    ∙ variant-at-number (s + 1) xs t i d (omega arith) in_i
    ∙ ap (λ t. let p : Variant = (t, i) in p) (let k : s + 1 + t ≡ s + suc t = omega arith in k)

-- a number is that of the variant i of a tile t
pub record Splits (xs : List TileView) (n t i : ℕ) : Type 0 where
  pub tile_in : t < length xs
  pub index_in : i < variants_of_tile (tile_at xs t)
  pub number : n ≡ tile_start xs t + i

splits_later : (x : TileView) (xs : List TileView) (n t i : ℕ) → variants_of_tile x ≤ n → Splits xs (n - variants_of_tile x) t i → Splits (x ∷ xs) n (suc t) i
splits_later x xs n t i le s = record { tile_in = omega (arith, s.tile_in); index_in = s.index_in; number = omega (arith, s.number, first-suc x xs t) }

pub split : (xs : List TileView) (n : ℕ) → n < variant_total xs → (t : ℕ) × (i : ℕ) × Splits xs n t i
split [] n below = absurd (omega arith)
split (x ∷ xs) n below = elim (cases_lt n (variants_of_tile x)) [
  | inl here ↦ (0, n, record { tile_in = omega arith; index_in = here; number = omega arith })
  | inr there ↦
      let s = split xs (n - variants_of_tile x) (omega (arith, sum_by-cons variants_of_tile x xs)) in
      (suc s.0, s.1, splits_later x xs n s.0 s.1 there s.2)
]

-- the number of a variant is below their count
pub number_below : (xs : List TileView) (t i : ℕ) → t < length xs → i < variants_of_tile (tile_at xs t) → tile_start xs t + i < variant_total xs
number_below [] t i in_t in_i = absurd (omega arith)
number_below (x ∷ xs) zero i in_t in_i = omega (arith, sum_by-cons variants_of_tile x xs)
number_below (x ∷ xs) (suc t) i in_t in_i = omega (arith, number_below xs t i (omega arith) in_i, first-suc x xs t, sum_by-cons variants_of_tile x xs)

-- ---- all variants

pub variant-number : (tiles : List TileView) (v : Variant) → IsVariant tiles v → variant_at tiles (variant_number tiles v) ≡ v
variant-number tiles v is =
    variant-at-number 0 tiles v.0 v.1 (0, 0) is.tile_in is.index_in ∙ ap (λ t. let p : Variant = (t, v.1) in p) (let k : 0 + v.0 ≡ v.0 = omega arith in k)

pub variant_of_split : (tiles : List TileView) (n t i : ℕ) → Splits tiles n t i → variant_at tiles n ≡ (t, i)
variant_of_split tiles n t i s =
    ap (variant_at tiles) s.number
    ∙ variant-at-number 0 tiles t i (0, 0) s.tile_in s.index_in
    ∙ ap (λ t. let p : Variant = (t, i) in p) (let k : 0 + t ≡ t = omega arith in k)

pub number-variant : (tiles : List TileView) (n : ℕ) → n < variant_total tiles → variant_number tiles (variant_at tiles n) ≡ n
number-variant tiles n below =
    let s = split tiles n below in
    ap (variant_number tiles) (variant_of_split tiles n s.0 s.1 s.2) ∙ sym s.2.number

pub variant_there : (tiles : List TileView) (n : ℕ) → n < variant_total tiles → IsVariant tiles (variant_at tiles n)
variant_there tiles n below =
    let s = split tiles n below in
    subst (IsVariant tiles) (sym (variant_of_split tiles n s.0 s.1 s.2)) (record { tile_in = s.2.tile_in; index_in = s.2.index_in })

-- ---- what numbered tiles are read by

pub length_listed : (tiles : List TileView) (list : List Variant) (first : List ℕ) → IsNumbered tiles list first → length list ≡ variant_total tiles
length_listed tiles list first is = ap length is.listed ∙ length-variants_from 0 tiles

pub length_begun : (tiles : List TileView) (list : List Variant) (first : List ℕ) → IsNumbered tiles list first → length first ≡ length tiles
length_begun tiles list first is = ap length is.begun ∙ length-map-range_with_len (tile_start tiles) 0 (length tiles)

pub listed_at : (tiles : List TileView) (list : List Variant) (first : List ℕ) → IsNumbered tiles list first → (v : ℕ) (r : Variant) → v < variant_total tiles
    → r ≡ get_or list v r → r ≡ variant_at tiles v
listed_at tiles list first is v r below e =
    e ∙ ap (λ xs. get_or xs v r) is.listed ∙ get_or_default (variants tiles) v r (0, 0) (omega (arith, length-variants_from 0 tiles))

pub begun_at : (tiles : List TileView) (list : List Variant) (first : List ℕ) → IsNumbered tiles list first → (t r : ℕ) → t < length tiles
    → r ≡ get_or first t r → r ≡ tile_start tiles t
begun_at tiles list first is t r below e =
    e ∙ ap (λ xs. get_or xs t r) is.begun ∙ get_or-map-range_with_len (tile_start tiles) 0 (length tiles) t t r below (omega arith)

-- ---- one tile more

-- the variants of the tiles and of one more behind them
variants_from-push : (s : ℕ) (xs : List TileView) (x : TileView) → variants_from s (xs ++ x ∷ []) ≡ variants_from s xs ++ row_of (s + length xs) x
variants_from-push s [] x = append-nil (row_of s x) ∙ ap (λ t. row_of t x) (let k : s ≡ s + 0 = omega arith in k)
variants_from-push s (y ∷ xs) x =
    ap (λ vs. row_of s y ++ vs) (variants_from-push (s + 1) xs x)
    ∙ sym (append_assoc (row_of s y) (variants_from (s + 1) xs) (row_of (s + 1 + length xs) x))
    ∙ ap (λ t. (row_of s y ++ variants_from (s + 1) xs) ++ row_of t x) (let k : s + 1 + length xs ≡ s + suc (length xs) = omega arith in k)

pub variants_more : (tiles : List TileView) (k : ℕ) (tile : TileView) → k < length tiles → tile ≡ get_or tiles k tile
    → variants (take (k + 1) tiles) ≡ variants (take k tiles) ++ row_of k tile
variants_more tiles k tile below e =
    ap variants (take_more tiles k tile below)
    ∙ variants_from-push 0 (take k tiles) (get_or tiles k tile)
    ∙ ap (λ t. variants (take k tiles) ++ row_of t (get_or tiles k tile)) (let n : 0 + length (take k tiles) ≡ k = omega (arith, length-take k tiles) in n)
    ∙ ap (λ x. variants (take k tiles) ++ row_of k x) (sym e)

pub begun_more : (tiles : List TileView) (k : ℕ) → map (tile_start tiles) (range_with_len 0 (k + 1)) ≡ map (tile_start tiles) (range_with_len 0 k) ++ tile_start tiles k ∷ []
begun_more tiles k = map-range_with_len_more (tile_start tiles) 0 k k (omega arith)

-- the first tiles have no more variants than all
pub total_front : (tiles : List TileView) (k : ℕ) → variant_total (take k tiles) ≤ variant_total tiles
total_front [] zero = omega arith
total_front [] (suc k) = omega arith
total_front (x ∷ xs) zero = omega arith
total_front (x ∷ xs) (suc k) = omega (arith, total_front xs k, sum_by-cons variants_of_tile x xs, sum_by-cons variants_of_tile x (take k xs))

-- one variant more of a tile
pub row_more : (start : List Variant) (t k : ℕ) (old new : List Variant) → old ≡ start ++ map (λ i. let p : Variant = (t, i) in p) (range_with_len 0 k)
    → new ≡ old ++ (t, k) ∷ [] → new ≡ start ++ map (λ i. let p : Variant = (t, i) in p) (range_with_len 0 (k + 1))
row_more start t k old new so_far pushed =
    pushed
    ∙ ap (λ vs. vs ++ (let p : Variant = (t, k) in p) ∷ []) so_far
    ∙ append_assoc start (map (λ i. let p : Variant = (t, i) in p) (range_with_len 0 k)) ((let p : Variant = (t, k) in p) ∷ [])
    ∙ ap (λ vs. start ++ vs) (sym (map-range_with_len_more (λ i. let p : Variant = (t, i) in p) 0 k k (omega arith)))

-- ---- numbering tile by tile

-- what is numbered once the first tiles are
abbrev pub Numbered : List TileView → ℕ → List Variant → List ℕ → Type 0
Numbered tiles k list first = (list ≡ variants (take k tiles)) × (first ≡ map (tile_start tiles) (range_with_len 0 k))

length_so_far : (tiles : List TileView) (k : ℕ) (list : List Variant) (first : List ℕ) → Numbered tiles k list first → length first ≡ k
length_so_far tiles k list first so_far = ap length so_far.1 ∙ length-map-range_with_len (tile_start tiles) 0 k

total_so_far : (tiles : List TileView) (k : ℕ) (list : List Variant) (first : List ℕ) → Numbered tiles k list first → length list ≡ tile_start tiles k
total_so_far tiles k list first so_far = ap length so_far.0 ∙ length-variants_from 0 (take k tiles)

-- so far there are no more tiles and variants than fit
pub numbered_fits : (tiles given : List TileView) (k : ℕ) (list : List Variant) (first : List ℕ) → given ≡ tiles → variant_total tiles ≤ MAX_VARIANTS
    → Numbered given k list first → k ≤ length given → (length list ≤ MAX_VARIANTS) × (length first ≤ MAX_VARIANTS)
numbered_fits tiles given k list first same limit so_far within =
    let few : variant_total given ≤ MAX_VARIANTS = subst (λ ts. variant_total ts ≤ MAX_VARIANTS) (sym same) limit in (
      omega (arith, few, total_so_far given k list first so_far, total_front given k),
      omega (arith, few, length_so_far given k list first so_far, few_tiles given),
    )

-- one tile more is numbered
pub numbered_more : (tiles : List TileView) (k t n count : ℕ) (tile : TileView) (list new_list : List Variant) (first new_first : List ℕ)
    → Numbered tiles k list first → k < length tiles → tile ≡ get_or tiles k tile → t ≡ length first → n ≡ length list → count ≡ variants_of_tile tile
    → new_first ≡ first ++ n ∷ [] → new_list ≡ list ++ map (λ i. let p : Variant = (t, i) in p) (range_with_len 0 count)
    → Numbered tiles (k + 1) new_list new_first
numbered_more tiles k t n count tile list new_list first new_first so_far below is is_t is_n is_count pushed_first pushed_list =
    let at : t ≡ k = is_t ∙ length_so_far tiles k list first so_far in
    let begun : n ≡ tile_start tiles k = is_n ∙ total_so_far tiles k list first so_far in (
      pushed_list
          ∙ ap (λ vs. vs ++ map (λ i. let p : Variant = (t, i) in p) (range_with_len 0 count)) so_far.0
          ∙ ap (λ u. variants (take k tiles) ++ map (λ i. let p : Variant = (u, i) in p) (range_with_len 0 count)) at
          ∙ ap (λ m. variants (take k tiles) ++ map (λ i. let p : Variant = (k, i) in p) (range_with_len 0 m)) is_count
          ∙ sym (variants_more tiles k tile below is),
      pushed_first
          ∙ ap (λ ns. ns ++ n ∷ []) so_far.1
          ∙ ap (λ m. map (tile_start tiles) (range_with_len 0 k) ++ m ∷ []) begun
          ∙ sym (begun_more tiles k),
    )
