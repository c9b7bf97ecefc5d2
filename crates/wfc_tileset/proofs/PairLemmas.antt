-- Allowed pairs, as a test.
use Rattle.std.proofs.Common.{◌≡◌, Bool, true, false, List, refl, sym, subst, ◌∙◌}
use Rattle.std.specs.Prelude.{Contains, ◌↔◌, ◌==◌, ◌&&◌, IsTrue}
use Rattle.std.proofs.lemmas.Bool.{and_from, and_parts, eq-eqb, eqb-true}
use Rattle.wfc_lists.proofs.Lists.{Contains_any, any_Contains}
use Rattle.wfc_tileset.specs.Allowed.{has_pair, same_variant}
use Rattle.wfc_tileset.specs.Tiles.{Variant}

variant_is : (v w : Variant) → same_variant v w ≡ true → v ≡ w
variant_is v w t =
    let parts = and_parts (v.0 == w.0) (v.1 == w.1) t in
    let first : v.0 ≡ w.0 = eqb-true v.0 w.0 parts.0 in
    let second : v.1 ≡ w.1 = eqb-true v.1 w.1 parts.1 in
    λ i. (first i, second i)

variant_same : (v : Variant) → same_variant v v ≡ true
variant_same v = and_from _ _ (eq-eqb v.0 v.0 refl) (eq-eqb v.1 v.1 refl)

pub pair_has : (ps : List (Variant × Variant)) (v w : Variant) → has_pair ps v w ≡ true → Contains ps (v, w)
pair_has ps v w t =
    let m = any_Contains (λ (p : Variant × Variant). same_variant p.0 v && same_variant p.1 w) ps t in
    let parts = and_parts (same_variant m.0.0 v) (same_variant m.0.1 w) m.2 in
    let first : m.0.0 ≡ v = variant_is m.0.0 v parts.0 in
    let second : m.0.1 ≡ w = variant_is m.0.1 w parts.1 in
    subst (Contains ps) (let same : m.0 ≡ (v, w) = λ i. (first i, second i) in same) m.1

pub has_the_pair : (ps : List (Variant × Variant)) (v w : Variant) → Contains ps (v, w) → has_pair ps v w ≡ true
has_the_pair ps v w c =
    Contains_any (λ (p : Variant × Variant). same_variant p.0 v && same_variant p.1 w) ps (v, w) c (and_from _ _ (variant_same v) (variant_same w))

-- a flag that says whether a pair is there is the test
pub says : (ps : List (Variant × Variant)) (v w : Variant) (r : Bool) → (IsTrue r ↔ Contains ps (v, w)) → r ≡ has_pair ps v w
says ps v w true iff = sym (has_the_pair ps v w (iff.0 refl))
says ps v w false iff = by (has_pair ps v w) refl
  where
    by : (b : Bool) → has_pair ps v w ≡ b → false ≡ has_pair ps v w
    by true t = iff.1 (pair_has ps v w t) ∙ sym t
    by false f = sym f
