-- What declared pairs allow, under one action behind another.
use Rattle.std.proofs.Common.{◌≡◌, ℕ, ◌+◌, ◌<◌, List, [], ◌∷◌, ◌++◌, length, refl, sym, subst, ap, ◌∙◌, arith, inl, inr, ◌⊎◌}
use Rattle.std.specs.Prelude.{Contains}
use Rattle.std.specs.List.{flat_map, All}
use Rattle.std.proofs.lemmas.List.{get_or_append_left, get_or-append-add}
use Rattle.std.proofs.Common.{length-append, lit<}
use Rattle.wfc_lists.proofs.Lists.{Contains_cases, Contains_none, Contains_later}
use Rattle.wfc_symmetry.specs.Class.{action_behind, variant_count}
use Rattle.wfc_symmetry.proofs.ClassLemmas.{acted_behind, variant_by_action_below}
use Rattle.wfc_symmetry.specs.declared.class.Class.{Class}
use Rattle.wfc_symmetry.specs.declared.class.Class.TheVariants.{X, I, L, T, F, Slash}
use Rattle.wfc_tileset.specs.declared.tile.End.{End}
use Rattle.wfc_tileset.specs.declared.tile.Pair.{Pair}
use Rattle.wfc_tileset.specs.Tiles.{TileView, TileSetView, Variant, tile_at, variants_of_tile, moved_variant}
use Rattle.wfc_tileset.specs.Allowed.{named_variant, pairs_beside, upright_pairs, beside_by, stacked_by, IsAcross, IsDown, IsPairEnd, IsPair, ArePairs}

-- ---- members of joined lists

-- a member of the first of two lists, or of the second, is one of both joined
Contains_left : {X : Type 0} (xs ys : List X) (v : X) → Contains xs v → Contains (xs ++ ys) v
Contains_left xs ys v (k, l, e) = (k, omega (arith, length-append xs ys), get_or_append_left xs ys v k l ∙ e)

Contains_right : {X : Type 0} (xs ys : List X) (v : X) → Contains ys v → Contains (xs ++ ys) v
Contains_right xs ys v (k, l, e) = (length xs + k, omega (arith, length-append xs ys), get_or-append-add xs ys k v ∙ e)

-- a member of both joined is one of the first or of the second
Contains_joined : {X : Type 0} (xs ys : List X) (v : X) → Contains (xs ++ ys) v → Contains xs v ⊎ Contains ys v
Contains_joined [] ys v c = inr c
Contains_joined (x ∷ xs) ys v c = elim (Contains_cases x (xs ++ ys) v c) [
  | inl same ↦ inl (0, omega arith, same)
  | inr later ↦ elim (Contains_joined xs ys v later) [
    | inl here ↦ inl (Contains_later x xs v here)
    | inr there ↦ inr there
  ]
]

-- a member of what an element gives is one of what all give, and the other way
pub Contains-flat_map : {X Y : Type 0} (f : X → List Y) (xs : List X) (x : X) (v : Y) → Contains xs x → Contains (f x) v → Contains (flat_map f xs) v
Contains-flat_map f [] x v c given = absurd (Contains_none x c)
Contains-flat_map f (first ∷ xs) x v c given = elim (Contains_cases first xs x c) [
  | inl same ↦ Contains_left (f first) (flat_map f xs) v (subst (λ y. Contains (f y) v) (sym same) given)
  | inr later ↦ Contains_right (f first) (flat_map f xs) v (Contains-flat_map f xs x v later given)
]

pub flat_map-Contains : {X Y : Type 0} (f : X → List Y) (xs : List X) (v : Y) → Contains (flat_map f xs) v → (x : X) × Contains xs x × Contains (f x) v
flat_map-Contains f [] v c = absurd (Contains_none v c)
flat_map-Contains f (x ∷ xs) v c = elim (Contains_joined (f x) (flat_map f xs) v c) [
  | inl here ↦ (x, (0, omega arith, refl), here)
  | inr there ↦ let found = flat_map-Contains f xs v there in (found.0, Contains_later x xs found.0 found.1, found.2)
]

-- what holds of each element holds of a member
pub All_at : {X : Type 0} (P : X → Type 0) (xs : List X) (x : X) → All P xs → Contains xs x → P x
All_at P xs x all (k, l, e) = subst P e (all k x l)

-- what becomes of each pair that an element gives is given by the same element in another way
carried : {X Y : Type 0} (f g : X → List Y) (h : Y → Y) (P : X → Type 0) (xs : List X) → All P xs
    → ((x : X) (y : Y) → P x → Contains (f x) y → Contains (g x) (h y))
    → (y : Y) → Contains (flat_map f xs) y → Contains (flat_map g xs) (h y)
carried f g h P xs all each y c =
    let found = flat_map-Contains f xs y c in
    Contains-flat_map g xs found.0 (h y) found.1 (each found.0 y (All_at P xs found.0 all found.1) found.2)

-- what holds of each of four holds of a member
pub of_four : {X : Type 0} (P : X → Type 0) (a b c d x : X) → P a → P b → P c → P d → Contains (a ∷ b ∷ c ∷ d ∷ []) x → P x
of_four P a b c d x at_a at_b at_c at_d m = elim (Contains_cases a (b ∷ c ∷ d ∷ []) x m) [
  | inl e ↦ subst P e at_a
  | inr m ↦ elim (Contains_cases b (c ∷ d ∷ []) x m) [
    | inl e ↦ subst P e at_b
    | inr m ↦ elim (Contains_cases c (d ∷ []) x m) [
      | inl e ↦ subst P e at_c
      | inr m ↦ elim (Contains_cases d [] x m) [
        | inl e ↦ subst P e at_d
        | inr m ↦ absurd (Contains_none x m)
      ]
    ]
  ]
]

-- ---- actions on variants

-- the variant is one of its tile's
abbrev pub Inside : List TileView → Variant → Type 0
Inside tiles v = v.1 < variants_of_tile (tile_at tiles v.0)

pub Inside_moved : (tiles : List TileView) (v : Variant) (k : ℕ) → Inside tiles v → k < 8 → Inside tiles (moved_variant tiles v k)
Inside_moved tiles v k inside below = variant_by_action_below (tile_at tiles v.0).class v.1 k inside below

-- each class has a variant
pub some_of : (class : Class) → 0 < variant_count class
some_of X = lit< tt
some_of I = lit< tt
some_of Slash = lit< tt
some_of L = lit< tt
some_of T = lit< tt
some_of F = lit< tt

some_variant : (tiles : List TileView) (t : ℕ) → Inside tiles (t, 0)
some_variant tiles t = some_of (tile_at tiles t).class

pub Inside_named : (tiles : List TileView) (end : End) → IsPairEnd tiles end → Inside tiles (named_variant tiles end)
Inside_named tiles end is_end = Inside_moved tiles (end.tile, 0) end.turn (some_variant tiles end.tile) is_end.turn_in

-- an action behind another is the action that they are joined to
behind : (tiles : List TileView) (v : Variant) (a b : ℕ) → Inside tiles v → a < 8 → b < 8 → moved_variant tiles (moved_variant tiles v b) a ≡ moved_variant tiles v (action_behind a b)
behind tiles v a b inside in_a in_b = ap (λ i. (v.0, i)) (acted_behind (tile_at tiles v.0).class v.1 a b inside in_a in_b)

-- the same of two pairs of actions that are joined to one, and of three actions
swapped : (tiles : List TileView) (v : Variant) (a b c d : ℕ) → Inside tiles v → a < 8 → b < 8 → c < 8 → d < 8
    → action_behind a b ≡ action_behind c d → moved_variant tiles (moved_variant tiles v b) a ≡ moved_variant tiles (moved_variant tiles v d) c
swapped tiles v a b c d inside in_a in_b in_c in_d same =
    behind tiles v a b inside in_a in_b ∙ ap (moved_variant tiles v) same ∙ sym (behind tiles v c d inside in_c in_d)

thrice : (tiles : List TileView) (v : Variant) (a b c : ℕ) → Inside tiles v → a < 8 → b < 8 → c < 8 → action_behind b c < 8
    → moved_variant tiles (moved_variant tiles (moved_variant tiles v c) b) a ≡ moved_variant tiles v (action_behind a (action_behind b c))
thrice tiles v a b c inside in_a in_b in_c in_joined =
    ap (λ u. moved_variant tiles u a) (behind tiles v b c inside in_b in_c) ∙ behind tiles v a (action_behind b c) inside in_a in_joined

-- two pairs with equal parts are equal
abbrev two : Variant → Variant → Variant × Variant
two v w = (v, w)

both : (a b c d : Variant) → a ≡ c → b ≡ d → two a b ≡ two c d
both a b c d e f = ap (λ x. two x b) e ∙ ap (λ y. two c y) f

-- ---- one declared pair

-- the pairs and the ones above each other after a quarter turn
up_by_one : (tiles : List TileView) (l r : Variant) → Inside tiles l → Inside tiles r → (p : Variant × Variant) → Contains (pairs_beside tiles l r) p
    → Contains (upright_pairs tiles (moved_variant tiles r 1) (moved_variant tiles l 1)) (moved_variant tiles p.1 1, moved_variant tiles p.0 1)
up_by_one tiles l r in_l in_r p c =
    of_four (λ p. Contains (upright_pairs tiles (moved_variant tiles r 1) (moved_variant tiles l 1)) (moved_variant tiles p.1 1, moved_variant tiles p.0 1)) _ _ _ _ p
    (0, omega arith, refl)
    (2, omega arith, both _ _ _ _ (swapped tiles r 4 1 1 6 in_r (lit< tt) (lit< tt) (lit< tt) (lit< tt) refl) (swapped tiles l 4 1 1 6 in_l (lit< tt) (lit< tt) (lit< tt) (lit< tt) refl))
    (1, omega arith, both _ _ _ _ (swapped tiles l 6 1 1 4 in_l (lit< tt) (lit< tt) (lit< tt) (lit< tt) refl) (swapped tiles r 6 1 1 4 in_r (lit< tt) (lit< tt) (lit< tt) (lit< tt) refl))
    (3, omega arith, both _ _ _ _ (swapped tiles l 2 1 1 2 in_l (lit< tt) (lit< tt) (lit< tt) (lit< tt) refl) (swapped tiles r 2 1 1 2 in_r (lit< tt) (lit< tt) (lit< tt) (lit< tt) refl))
    c

-- the other way, the upper one goes to the left
left_by_one : (tiles : List TileView) (l r : Variant) → Inside tiles l → Inside tiles r → (p : Variant × Variant)
    → Contains (upright_pairs tiles (moved_variant tiles r 1) (moved_variant tiles l 1)) p → Contains (pairs_beside tiles l r) (moved_variant tiles p.0 1, moved_variant tiles p.1 1)
left_by_one tiles l r in_l in_r p c =
    of_four (λ p. Contains (pairs_beside tiles l r) (moved_variant tiles p.0 1, moved_variant tiles p.1 1)) _ _ _ _ p
    (3, omega arith, both _ _ _ _ (sym (behind tiles r 1 1 in_r (lit< tt) (lit< tt))) (sym (behind tiles l 1 1 in_l (lit< tt) (lit< tt))))
    (1, omega arith, both _ _ _ _ (sym (thrice tiles l 1 6 1 in_l (lit< tt) (lit< tt) (lit< tt) (lit< tt))) (sym (thrice tiles r 1 6 1 in_r (lit< tt) (lit< tt) (lit< tt) (lit< tt))))
    (2, omega arith, both _ _ _ _ (sym (thrice tiles r 1 4 1 in_r (lit< tt) (lit< tt) (lit< tt) (lit< tt))) (sym (thrice tiles l 1 4 1 in_l (lit< tt) (lit< tt) (lit< tt) (lit< tt))))
    (0, omega arith, both _ _ _ _ (sym (thrice tiles l 1 2 1 in_l (lit< tt) (lit< tt) (lit< tt) (lit< tt))) (sym (thrice tiles r 1 2 1 in_r (lit< tt) (lit< tt) (lit< tt) (lit< tt))))
    c

-- a reflection exchanges left and right
over_by_one : (tiles : List TileView) (l r : Variant) → Inside tiles l → Inside tiles r → (p : Variant × Variant) → Contains (pairs_beside tiles l r) p
    → Contains (pairs_beside tiles l r) (moved_variant tiles p.1 4, moved_variant tiles p.0 4)
over_by_one tiles l r in_l in_r p c =
    of_four (λ p. Contains (pairs_beside tiles l r) (moved_variant tiles p.1 4, moved_variant tiles p.0 4)) _ _ _ _ p
    (2, omega arith, refl)
    (3, omega arith, both _ _ _ _ (sym (behind tiles r 4 6 in_r (lit< tt) (lit< tt))) (sym (behind tiles l 4 6 in_l (lit< tt) (lit< tt))))
    (0, omega arith, both _ _ _ _ (sym (behind tiles l 4 4 in_l (lit< tt) (lit< tt))) (sym (behind tiles r 4 4 in_r (lit< tt) (lit< tt))))
    (1, omega arith, both _ _ _ _ (sym (behind tiles l 4 2 in_l (lit< tt) (lit< tt))) (sym (behind tiles r 4 2 in_r (lit< tt) (lit< tt))))
    c

-- and leaves upper and lower as they are
over_below_by_one : (tiles : List TileView) (u d : Variant) → Inside tiles u → Inside tiles d → (p : Variant × Variant) → Contains (upright_pairs tiles u d) p
    → Contains (upright_pairs tiles u d) (moved_variant tiles p.0 4, moved_variant tiles p.1 4)
over_below_by_one tiles u d in_u in_d p c =
    of_four (λ p. Contains (upright_pairs tiles u d) (moved_variant tiles p.0 4, moved_variant tiles p.1 4)) _ _ _ _ p
    (2, omega arith, refl)
    (3, omega arith, both _ _ _ _ (sym (behind tiles d 4 6 in_d (lit< tt) (lit< tt))) (sym (behind tiles u 4 6 in_u (lit< tt) (lit< tt))))
    (0, omega arith, both _ _ _ _ (sym (behind tiles u 4 4 in_u (lit< tt) (lit< tt))) (sym (behind tiles d 4 4 in_d (lit< tt) (lit< tt))))
    (1, omega arith, both _ _ _ _ (sym (behind tiles d 4 2 in_d (lit< tt) (lit< tt))) (sym (behind tiles u 4 2 in_u (lit< tt) (lit< tt))))
    c

-- ---- all declared pairs

pub allowed_up : (set : TileSetView) (v w : Variant) → ArePairs set → IsAcross set v w → IsDown set (moved_variant set.tiles w 1) (moved_variant set.tiles v 1)
allowed_up set v w are c =
    carried (beside_by set.tiles) (stacked_by set.tiles) (λ p. (moved_variant set.tiles p.1 1, moved_variant set.tiles p.0 1)) (IsPair set.tiles) set.pairs are
    (λ pair p is_pair m. up_by_one set.tiles (named_variant set.tiles pair.left) (named_variant set.tiles pair.right) (Inside_named set.tiles pair.left is_pair.left_in) (Inside_named set.tiles pair.right is_pair.right_in) p m)
    (v, w) c

pub allowed_left : (set : TileSetView) (v w : Variant) → ArePairs set → IsDown set v w → IsAcross set (moved_variant set.tiles v 1) (moved_variant set.tiles w 1)
allowed_left set v w are c =
    carried (stacked_by set.tiles) (beside_by set.tiles) (λ p. (moved_variant set.tiles p.0 1, moved_variant set.tiles p.1 1)) (IsPair set.tiles) set.pairs are
    (λ pair p is_pair m. left_by_one set.tiles (named_variant set.tiles pair.left) (named_variant set.tiles pair.right) (Inside_named set.tiles pair.left is_pair.left_in) (Inside_named set.tiles pair.right is_pair.right_in) p m)
    (v, w) c

pub allowed_over : (set : TileSetView) (v w : Variant) → ArePairs set → IsAcross set v w → IsAcross set (moved_variant set.tiles w 4) (moved_variant set.tiles v 4)
allowed_over set v w are c =
    carried (beside_by set.tiles) (beside_by set.tiles) (λ p. (moved_variant set.tiles p.1 4, moved_variant set.tiles p.0 4)) (IsPair set.tiles) set.pairs are
    (λ pair p is_pair m. over_by_one set.tiles (named_variant set.tiles pair.left) (named_variant set.tiles pair.right) (Inside_named set.tiles pair.left is_pair.left_in) (Inside_named set.tiles pair.right is_pair.right_in) p m)
    (v, w) c

pub allowed_over_below : (set : TileSetView) (v w : Variant) → ArePairs set → IsDown set v w → IsDown set (moved_variant set.tiles v 4) (moved_variant set.tiles w 4)
allowed_over_below set v w are c =
    carried (stacked_by set.tiles) (stacked_by set.tiles) (λ p. (moved_variant set.tiles p.0 4, moved_variant set.tiles p.1 4)) (IsPair set.tiles) set.pairs are
    (λ pair p is_pair m. over_below_by_one set.tiles (moved_variant set.tiles (named_variant set.tiles pair.right) 1) (moved_variant set.tiles (named_variant set.tiles pair.left) 1)
    (Inside_moved set.tiles (named_variant set.tiles pair.right) 1 (Inside_named set.tiles pair.right is_pair.right_in) (lit< tt))
    (Inside_moved set.tiles (named_variant set.tiles pair.left) 1 (Inside_named set.tiles pair.left is_pair.left_in) (lit< tt)) p m)
    (v, w) c

-- a declared pair is the first that it allows
pub allowed_declared : (set : TileSetView) (pair : Pair) → Contains set.pairs pair → IsAcross set (named_variant set.tiles pair.left) (named_variant set.tiles pair.right)
allowed_declared set pair c = Contains-flat_map (beside_by set.tiles) set.pairs pair _ c (0, omega arith, refl)
