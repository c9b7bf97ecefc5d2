-- The pictures of a tile set: one more, and what is known of them all.
use Rattle.std.proofs.Common.{◌≡◌, ℕ, zero, suc, ◌<◌, Bool, true, false, not, List, [], ◌∷◌, ◌++◌, length, Option, None, Some, Result, Ok, Err, inl, refl, sym, ap, ◌∙◌, arith, length-append, if◌then◌else◌}
use Rattle.std.specs.Prelude.{◌==◌, IsSome}
use Rattle.std.proofs.lemmas.Bool.{eqb-true}
use Rattle.std.proofs.lemmas.List.Elements.{All-push}
use Rattle.wfc_outside.specs.Gives.{Gives, result_map}
use Rattle.wfc_picture.specs.declared.symbol.Kind.{Kind}
use Rattle.wfc_picture.specs.declared.symbol.Kind.TheVariants as kinds
use Rattle.wfc_tileset.specs.declared.fault.TileFault.{TileFault}
use Rattle.wfc_tileset.specs.declared.fault.TileFault.TheVariants as fault
use Rattle.wfc_tileset.specs.Document.{result_then}
use Rattle.wfc_tileset.specs.Pictures.{ArePictures, IsDrawn, IsPicture, IsPictureOf, fitting_picture, fitting_first, kind_of, next_name, one_kind, picture_for, picture_name, tile_picture_of, side_of, some_picture, with_picture}
use Rattle.wfc_tileset.specs.Tiles.{PictureView, TileView, TileSetView, tile_at}
use Rattle.wfc_tileset.specs.TileSets.{HasClosedTables}

-- ---- a picture that is as the first

one_kind_is : (a b : Kind) → one_kind a b ≡ true → a ≡ b
one_kind_is kinds.Grid kinds.Grid e = refl
one_kind_is kinds.Plain kinds.Plain e = refl
one_kind_is (kinds.Ppm a) (kinds.Ppm b) e = ap (λ n. kinds.Ppm n) (eqb-true a b e)
one_kind_is kinds.Grid (kinds.Ppm b) e = absurd (cc (e))
one_kind_is kinds.Grid kinds.Plain e = absurd (cc (e))
one_kind_is kinds.Plain kinds.Grid e = absurd (cc (e))
one_kind_is kinds.Plain (kinds.Ppm b) e = absurd (cc (e))
one_kind_is (kinds.Ppm a) kinds.Grid e = absurd (cc (e))
one_kind_is (kinds.Ppm a) kinds.Plain e = absurd (cc (e))

-- what fits is the picture itself, of the first one's kind and side
record IsLike (first picture p : PictureView) : Type 0 where
  pub same : picture ≡ p
  pub kinds_are : picture.kind ≡ first.kind
  pub sides_are : picture.side ≡ first.side

like_first : (tile : ℕ) (first picture p : PictureView) → Ok p ≡ fitting_first tile first picture → IsLike first picture p
like_first tile first picture p e = by (one_kind picture.kind first.kind) refl (picture.side == first.side) refl e
  where
    by : (k : Bool) → one_kind picture.kind first.kind ≡ k → (s : Bool) → (picture.side == first.side) ≡ s → Ok p ≡ (if not k then Err (fault.MixedKinds tile) else if not s then Err (fault.SizeDiffers tile) else Ok picture) → IsLike first picture p
    by true k true s e = record { same = cc; kinds_are = one_kind_is picture.kind first.kind k; sides_are = eqb-true picture.side first.side s }
    by true k false s e = absurd (cc (e))
    by false k s t e = absurd (cc (e))

-- a picture that fits is of the kind and the side of all
picture_fits : (before : List PictureView) (picture p : PictureView) → IsPicture p → Ok p ≡ fitting_picture before picture
    → IsPictureOf (kind_of (before ++ p ∷ [])) (side_of (before ++ p ∷ [])) p
picture_fits [] picture p is e = record { same_kind = refl; same_side = refl; is_picture = is }
picture_fits (first ∷ more) picture p is e =
    let like = like_first (length (first ∷ more)) first picture p e in
    record {
      same_kind = sym (ap (λ (q : PictureView). q.kind) like.same) ∙ like.kinds_are;
      same_side = sym (ap (λ (q : PictureView). q.side) like.same) ∙ like.sides_are;
      is_picture = is;
    }

-- and so is the next picture
pub next_fits : (set : TileSetView) (bytes : List ℕ) (p : PictureView) → IsPicture p → Ok p ≡ picture_for set bytes
    → IsPictureOf (kind_of (set.pictures ++ p ∷ [])) (side_of (set.pictures ++ p ∷ [])) p
next_fits set bytes p is e = by (tile_picture_of (next_name set) bytes) e
  where
    by : (found : Option PictureView) → Ok p ≡ result_then (some_picture (length set.pictures) found) (fitting_picture set.pictures)
        → IsPictureOf (kind_of (set.pictures ++ p ∷ [])) (side_of (set.pictures ++ p ∷ [])) p
    by None e = absurd (cc (e))
    by (Some picture) e = picture_fits set.pictures picture p is e

-- the next picture is the one that its file is, if it fits
pub next_is : (set : TileSetView) (bytes : List ℕ) (picture : PictureView) (result : Result PictureView TileFault) → tile_picture_of (next_name set) bytes ≡ Some picture
    → result ≡ fitting_picture set.pictures picture → Gives fault.NoMemory (λ p. p) result (picture_for set bytes)
next_is set bytes picture result found fits =
    inl (itself result ∙ fits ∙ sym (ap (λ (o : Option PictureView). result_then (some_picture (length set.pictures) o) (fitting_picture set.pictures)) found))
  where
    itself : (r : Result PictureView TileFault) → result_map (λ p. p) r ≡ r
    itself (Ok p) = refl
    itself (Err e) = refl

-- ---- one picture more

-- all are of the kind and the side of the first
are_pictures : (before : List PictureView) (p : PictureView) → ArePictures before → IsPictureOf (kind_of (before ++ p ∷ [])) (side_of (before ++ p ∷ [])) p → ArePictures (before ++ p ∷ [])
are_pictures [] p are is = All-push (IsPictureOf p.kind p.side) [] p (λ k d within. absurd (omega arith)) is
are_pictures (first ∷ more) p are is = All-push (IsPictureOf first.kind first.side) (first ∷ more) p are is

-- a tile that names a picture is one of the set
named_inside : (tiles : List TileView) (t : ℕ) → IsSome (tile_at tiles t).picture → t < length tiles
named_inside [] zero some = cc
named_inside [] (suc t) some = cc
named_inside (x ∷ tiles) zero some = omega arith
named_inside (x ∷ tiles) (suc t) some = omega (arith, named_inside tiles t some)

pub drawn_more : (set : TileSetView) (p : PictureView) → IsDrawn set → IsSome (picture_name set (length set.pictures))
    → IsPictureOf (kind_of (set.pictures ++ p ∷ [])) (side_of (set.pictures ++ p ∷ [])) p → IsDrawn (with_picture set p)
drawn_more set p drawn some is = record {
  few = omega (arith, named_inside set.tiles (length set.pictures) some, length-append set.pictures (p ∷ []));
  named = λ any. first set.pictures drawn.named some;
  pictures = are_pictures set.pictures p drawn.pictures is;
}
  where
    first : (before : List PictureView) → (0 < length before → IsSome (picture_name set 0)) → IsSome (picture_name set (length before)) → IsSome (picture_name set 0)
    first [] named some = some
    first (x ∷ before) named some = named (omega arith)

-- and its tables stay what they are
pub closed_more : (set : TileSetView) (across down : List Bool) (p : PictureView) → HasClosedTables set across down → IsSome (picture_name set (length set.pictures))
    → IsPictureOf (kind_of (set.pictures ++ p ∷ [])) (side_of (set.pictures ++ p ∷ [])) p → HasClosedTables (with_picture set p) across down
closed_more set across down p closed some is = record {
  across_is = closed.across_is;
  down_is = closed.down_is;
  tile_set = record {
    some_tile = closed.tile_set.some_tile;
    weighed = closed.tile_set.weighed;
    alike = closed.tile_set.alike;
    limit = closed.tile_set.limit;
    pairs = closed.tile_set.pairs;
  };
  drawn = drawn_more set p closed.drawn some is;
}
