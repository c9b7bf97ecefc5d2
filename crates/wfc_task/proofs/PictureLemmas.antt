-- A tile set that was read has all pictures that it names.
use Rattle.std.proofs.Common.{Err, List, None, Ok, Option, Result, Some, [], ap, arith, inl, inr, length, length-append, refl, subst, suc, sym, zero, ℕ, ◌+◌, ◌∙◌, ◌∷◌, ◌≡◌, ◌≤◌, ◌⊎◌}
use Rattle.std.proofs.lemmas.List.{get_or_past}
use Rattle.wfc_outside.specs.Folder.{FolderView}
use Rattle.wfc_plan.proofs.CallerLemmas.{unrefused}
use Rattle.wfc_plan.specs.Plan.{Follows, Goes, Plan, and_then, done, read, refuse, step}
use Rattle.wfc_plan.specs.declared.fault.Refusal.{Refusal}
use Rattle.wfc_plan.specs.declared.fault.Refusal.TheVariants as refusals
use Rattle.wfc_task.specs.TilePlans.{document_plan, next_plan, tile_picture_plan, pictures_plan, tiles_plan}
use Rattle.wfc_task.specs.TileSteps.{with_next_picture}
use Rattle.wfc_tileset.specs.Document.{result_then as if_given}
use Rattle.wfc_tileset.specs.Pictures.{picture_for, picture_name, picture_taken, with_picture}
use Rattle.wfc_tileset.specs.Tiles.{PictureView, TileSetView}
use Rattle.wfc_tileset.specs.declared.fault.TileFault.{TileFault}
use Rattle.wfc_words.specs.RequestView.{RequestView}

-- where two plans in a row came to something, so did each
pub follows_parts : {A B : Type 0} (plan : Plan A) (next : A → Plan B) (before after : FolderView) (value : B) → Follows (and_then plan next) before after (Ok value)
    → (first : A) × Follows plan before before (Ok first) × Follows (next first) before after (Ok value)
follows_parts (done first) next before after value follows = (first, (refl, refl), follows)
follows_parts (refuse refusal) next before after value follows = absurd (cc (follows.1))
follows_parts (read source name limit more) next before after value (inl goes_on) =
    let parts = follows_parts (more goes_on.0) next before after value goes_on.2 in
    (parts.0, inl (goes_on.0, goes_on.1, parts.1), parts.2)
follows_parts (read source name limit more) next before after value (inr unread) = absurd (cc (unread.2))

-- what a step came to
pub step_follows : {T : Type 0} (wanted : Result T Refusal) (before after : FolderView) (value : T) → Follows (step wanted) before after (Ok value) → wanted ≡ Ok value
step_follows (Ok x) before after value follows = let same : x ≡ value = cc (follows.1) in ap (λ v. let r : Result _ _ = Ok v in r) same
step_follows (Err refusal) before after value follows = absurd (cc (follows.1))

-- the next tile names no picture
abbrev IsWhole : TileSetView → Type 0
IsWhole set = picture_name set (length set.pictures) ≡ None

-- behind the last tile no picture is named
whole_past : (set : TileSetView) → length set.tiles ≤ length set.pictures → IsWhole set
whole_past set past = ap (λ tile. tile.picture) (get_or_past set.tiles (length set.pictures) _ past)

-- a tile set with the next picture has the same tiles and one more picture
taken_is : (set : TileSetView) (bytes : List ℕ) (next : TileSetView) → picture_taken set bytes ≡ Ok next → (next.tiles ≡ set.tiles) × (length next.pictures ≡ length set.pictures + 1)
taken_is set bytes next is = by_picture (picture_for set bytes) is
  where
    by_picture : (picture : Result PictureView TileFault) → if_given picture (λ picture. let taken : Result TileSetView TileFault = Ok (with_picture set picture) in taken) ≡ Ok next
        → (next.tiles ≡ set.tiles) × (length next.pictures ≡ length set.pictures + 1)
    by_picture (Ok picture) is =
        let same : with_picture set picture ≡ next = cc in
        subst (λ (next : TileSetView). (next.tiles ≡ set.tiles) × (length next.pictures ≡ length set.pictures + 1)) same (refl, omega (arith, length-append set.pictures (picture ∷ [])))
    by_picture (Err fault) is = absurd (cc)

-- what is left of the tiles behind the pictures of a tile set is read, or the next one names none
abbrev IsEnough : ℕ → TileSetView → Type 0
IsEnough left set = IsWhole set ⊎ (length set.tiles ≤ length set.pictures + left)

-- the next picture is read, so that there is one tile less behind them
next_enough : (left : ℕ) (name : Option (List ℕ)) (set next : TileSetView) (before after : FolderView) → picture_name set (length set.pictures) ≡ name → IsEnough (suc left) set
    → Follows (tile_picture_plan name set) before after (Ok next) → IsEnough left next
next_enough left None set next before after is enough follows = let same : next ≡ set = cc (follows.1) in subst (IsEnough left) (sym same) (inl is)
next_enough left (Some name) set next before after is enough (inr unread) = absurd (cc (unread.2))
next_enough left (Some name) set next before after is enough (inl goes_on) =
    let taken = taken_is set goes_on.0 next (unrefused refusals.Tiles (picture_taken set goes_on.0) next (step_follows (with_next_picture set goes_on.0) before after next goes_on.2)) in
    elim enough [
      | inl whole ↦ absurd (let none : None ≡ Some name = sym whole ∙ is in cc)
      | inr few ↦ inr (omega (arith, ap length taken.0, taken.1, few))
    ]

-- the pictures of the tiles that are left are read, and then the tile set has all that it names
pub all_taken : (left : ℕ) (set next : TileSetView) (before after : FolderView) → IsEnough left set → Follows (pictures_plan left set) before after (Ok next) → IsWhole next
all_taken zero set next before after (inl whole) follows = let same : next ≡ set = cc (follows.1) in subst IsWhole (sym same) whole
all_taken zero set next before after (inr few) follows = let same : next ≡ set = cc (follows.1) in subst IsWhole (sym same) (whole_past set (omega (arith, few)))
all_taken (suc left) set next before after enough follows =
    let parts = follows_parts (next_plan set) (pictures_plan left) before after next follows in
    all_taken left parts.0 next before after (next_enough left (picture_name set (length set.pictures)) set parts.0 before before refl enough parts.1) parts.2

-- a tile set that was read has all pictures that it names
pub tiles_pictured : (asked : RequestView) (set : TileSetView) (before after : FolderView) → Goes (tiles_plan asked) before after (Ok set) → picture_name set (length set.pictures) ≡ None
tiles_pictured asked set before after (inr short) = absurd (cc (short.1.2))
tiles_pictured asked set before after (inl follows) =
    let parts = follows_parts (document_plan asked) (λ (set : TileSetView). pictures_plan (length set.tiles) set) before after set follows in
    all_taken (length parts.0.tiles) parts.0 set before after (inr (omega arith)) parts.2
