-- Which words spell which variants.
use Rattle.std.proofs.Common.{◌≡◌, ℕ, zero, suc, ◌+◌, ◌<◌, ◌≤◌, false, List, [], ◌∷◌, ◌++◌, length, take, drop, None, Some, inl, inr, sym, ap, ◌∙◌, arith, length-append, lit≤}
use Rattle.std.specs.Str.{bytes_eq}
use Rattle.std.proofs.lemmas.Bool.{cases_Bool, cases_lt}
use Rattle.std.proofs.lemmas.Slice.Eq.{bytes_eq-Decides}
use Rattle.wfc_lists.proofs.Positions.{position_at, position_none}
use Rattle.std.proofs.Math.Seq.{take-append_seam, drop-append_seam}
use Rattle.wfc_symmetry.specs.Class.{variant_count}
use Rattle.wfc_symmetry.specs.declared.class.Class.{Class}
use Rattle.wfc_symmetry.specs.declared.class.Class.TheVariants.{X, I, L, T, F, Slash}
use Rattle.wfc_tileset.specs.Tiles.{TileView, Variant, tile_at, variants, variant_total, variant_at, variant_of, spelling, SpellsVariant}
use Rattle.wfc_tileset.specs.Numbers.{tile_start, variant_number, IsNamed}
use Rattle.wfc_tileset.proofs.VariantLemmas.{first-suc, length-variants_from, number_below, number-variant, variant-number, variant_there}

-- a tile has at most eight variants
pub eight : (class : Class) → variant_count class ≤ 8
eight X = lit≤ tt
eight I = lit≤ tt
eight Slash = lit≤ tt
eight L = lit≤ tt
eight T = lit≤ tt
eight F = lit≤ tt

-- words that are equal have equal names and numbers
equal_parts : (xs ys : List ℕ) (b c : ℕ) → xs ++ 47 ∷ b ∷ [] ≡ ys ++ 47 ∷ c ∷ [] → (xs ≡ ys) × (b ≡ c)
equal_parts xs ys b c e =
    let long : length xs ≡ length ys = omega (arith, ap length e, length-append xs (47 ∷ b ∷ []), length-append ys (47 ∷ c ∷ [])) in
    let names : xs ≡ ys = sym (take-append_seam xs (47 ∷ b ∷ [])) ∙ ap (take (length xs)) e ∙ ap (λ n. take n (ys ++ 47 ∷ c ∷ [])) long ∙ take-append_seam ys (47 ∷ c ∷ []) in
    let ends : 47 ∷ b ∷ [] ≡ 47 ∷ c ∷ [] = sym (drop-append_seam xs (47 ∷ b ∷ [])) ∙ ap (drop (length xs)) e ∙ ap (λ n. drop n (ys ++ 47 ∷ c ∷ [])) long ∙ drop-append_seam ys (47 ∷ c ∷ []) in
    (names, cc)

-- a word of a tile's name and the number of one of its variants spells that variant
pub spelled : (tiles : List TileView) (word name : List ℕ) (t i : ℕ) → IsNamed tiles name i t → name ++ 47 ∷ (48 + i) ∷ [] ≡ word
    → SpellsVariant tiles word (variant_number tiles (t, i))
spelled tiles word name t i is e = (
  number_below tiles t i is.tile_in is.index_in,
  ap (spelling tiles) (variant-number tiles (t, i) (record { tile_in = is.tile_in; index_in = is.index_in }))
      ∙ ap (λ n. n ++ 47 ∷ (48 + i) ∷ []) is.named ∙ e,
)

-- a word that is no name with a slash and a digit spells nothing
pub no_parts : (tiles : List TileView) (word : List ℕ) → ((name : List ℕ) (index : ℕ) → index < 8 → name ++ 47 ∷ (48 + index) ∷ [] ≡ word → ⊥)
    → (v : ℕ) → SpellsVariant tiles word v → ⊥
no_parts tiles word none v s =
    let is = variant_there tiles v s.0 in
    none (tile_at tiles (variant_at tiles v).0).name (variant_at tiles v).1 (omega (arith, is.index_in, eight (tile_at tiles (variant_at tiles v).0).class)) s.1

-- and so does one whose name and number no tile has
pub no_tile : (tiles : List TileView) (word name : List ℕ) (i : ℕ) → name ++ 47 ∷ (48 + i) ∷ [] ≡ word → ((t : ℕ) → IsNamed tiles name i t → ⊥)
    → (v : ℕ) → SpellsVariant tiles word v → ⊥
no_tile tiles word name i e none v s =
    let is = variant_there tiles v s.0 in
    let same = equal_parts (tile_at tiles (variant_at tiles v).0).name name (48 + (variant_at tiles v).1) (48 + i) (s.1 ∙ sym e) in
    let at : (variant_at tiles v).1 ≡ i = omega (arith, same.1) in
    none (variant_at tiles v).0 (record { tile_in = is.tile_in; named = same.0; index_in = omega (arith, is.index_in) })

-- ---- the first variant that a word spells

-- the variants of later tiles are numbered later
first_rises : (tiles : List TileView) (s t : ℕ) → s ≤ t → tile_start tiles s ≤ tile_start tiles t
first_rises [] zero t le = omega arith
first_rises [] (suc s) zero le = omega arith
first_rises [] (suc s) (suc t) le = omega arith
first_rises (x ∷ xs) zero t le = omega arith
first_rises (x ∷ xs) (suc s) zero le = absurd (omega arith)
first_rises (x ∷ xs) (suc s) (suc t) le = omega (arith, first_rises xs s t (omega arith), first-suc x xs s, first-suc x xs t)

-- before the first tile with that name and number, no variant is spelled so
pub none_before : (tiles : List TileView) (word name : List ℕ) (t i : ℕ) → name ++ 47 ∷ (48 + i) ∷ [] ≡ word
    → ((k : ℕ) → k < t → IsNamed tiles name i k → ⊥) → (w : ℕ) → w < variant_number tiles (t, i) → SpellsVariant tiles word w → ⊥
none_before tiles word name t i e none w below s =
    let is = variant_there tiles w s.0 in
    let same = equal_parts (tile_at tiles (variant_at tiles w).0).name name (48 + (variant_at tiles w).1) (48 + i) (s.1 ∙ sym e) in
    let at : (variant_at tiles w).1 ≡ i = omega (arith, same.1) in
    let named : IsNamed tiles name i (variant_at tiles w).0 = record { tile_in = is.tile_in; named = same.0; index_in = omega (arith, is.index_in) } in
    elim (cases_lt (variant_at tiles w).0 t) [
      | inl before ↦ none (variant_at tiles w).0 before named
      | inr after ↦ absurd (omega (arith, number-variant tiles w s.0, first_rises tiles t (variant_at tiles w).0 after))
    ]

-- a variant with another spelling fails the test
fails : (tiles : List TileView) (word : List ℕ) (v : ℕ) → v < variant_total tiles → (SpellsVariant tiles word v → ⊥) → bytes_eq (spelling tiles (variant_at tiles v)) word ≡ false
fails tiles word v below other = elim (cases_Bool (bytes_eq (spelling tiles (variant_at tiles v)) word)) [
  | inl same ↦ absurd (other (below, (bytes_eq-Decides _ word).0 same))
  | inr different ↦ different
]

pub first_variant : (tiles : List TileView) (word : List ℕ) (v : ℕ) → SpellsVariant tiles word v → ((w : ℕ) → w < v → SpellsVariant tiles word w → ⊥) → variant_of tiles word ≡ Some v
first_variant tiles word v s none =
    let below : v < variant_total tiles = s.0 in
    position_at (λ (p : Variant). bytes_eq (spelling tiles p) word) (variants tiles) v (0, 0) (omega (arith, length-variants_from 0 tiles, s.0))
    ((bytes_eq-Decides _ word).1 s.1) (λ k before. fails tiles word k (omega arith) (none k before))

pub no_variant : (tiles : List TileView) (word : List ℕ) → ((v : ℕ) → SpellsVariant tiles word v → ⊥) → variant_of tiles word ≡ None
no_variant tiles word none =
    position_none (λ (p : Variant). bytes_eq (spelling tiles p) word) (variants tiles) (0, 0) (λ k within. fails tiles word k (omega (arith, length-variants_from 0 tiles)) (none k))
