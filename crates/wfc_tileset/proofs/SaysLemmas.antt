-- A tile set that is read is one that the document says.
use Rattle.std.proofs.Common.{◌≡◌, ◌⊎◌, ℕ, Bool, true, false, not, ◌&&◌, nat_le, if◌then◌else◌, List, [], ◌∷◌, ◌++◌, append-nil, append_assoc, length, inl, inr, Option, None, Some, Result, Ok, Err, ap, sym, subst, refl, ◌∙◌}
use Rattle.std.specs.Prelude.{ℤ, pos, negsuc, codes}
use Rattle.std.specs.List.{list_any}
use Rattle.std.specs.Option.{ok_or, option_map}
use Rattle.toml.specs.Data.{Data, string, integer, array, Items, no_items, item, Members, get_member, as_integer, as_str, as_table, as_array}
use Rattle.wfc_symmetry.specs.declared.class.Class.{Class}
use Rattle.wfc_tileset.specs.Document.{result_then, class_in, symmetry_class, elements_in, few_variants, fits_first, has_name, is_name, name_in, pairs_from, parsed_document, picture_in, set_from, set_of, set_with, some_tiles, table_in, required_text, tile_from, tile_with, tiles_from, weight_in, tile_weight}
use Rattle.wfc_tileset.specs.Says.{AreNamedBehind, AreSaid, SaysPair, SaysSet, SaysTile}
use Rattle.wfc_tileset.specs.Tiles.{TileView, TileSetView}
use Rattle.wfc_tileset.specs.declared.fault.Key.{Key}
use Rattle.wfc_tileset.specs.declared.fault.Key.TheVariants as key
use Rattle.wfc_tileset.specs.declared.fault.Place.TheVariants as place
use Rattle.wfc_tileset.specs.declared.fault.TileFault.{TileFault}
use Rattle.wfc_tileset.specs.declared.fault.TileFault.TheVariants as fault
use Rattle.wfc_tileset.proofs.DocumentLemmas.{tile_in}
use Rattle.wfc_tileset.proofs.DocumentSetLemmas.{behind_arrays, behind_class, behind_name, behind_picture, behind_tile_items, behind_tiles, behind_weight, few_kept, set_read, then_parts, there}
use Rattle.wfc_tileset.proofs.SaysPairLemmas.{array_there, integer_there, pairs_say, str_there, table_there, text_there}

-- ---- a tile

name_says : (before : List TileView) (d : Option Data) (name : List ℕ) → name_in before d ≡ Ok name → (d ≡ Some (string name)) × (is_name name ≡ true) × (list_any (has_name name) before ≡ false)
name_says before d name is =
    let text = then_parts (required_text (place.Tile (length before)) key.Name d) (behind before) name is in
    let read = text_there (place.Tile (length before)) key.Name d text.0 text.1 in
    let tests = by_tests text.0 (is_name text.0) refl (list_any (has_name text.0) before) refl text.2 in
    (read ∙ ap (λ t. Some (string t)) tests.0, ap is_name (sym tests.0) ∙ tests.1.0, ap (λ t. list_any (has_name t) before) (sym tests.0) ∙ tests.1.1)
  where
    behind : List TileView → List ℕ → Result (List ℕ) TileFault
    behind before name = if not (is_name name) then Err (fault.BadName (length before)) else if list_any (has_name name) before then Err (fault.DoubleName (length before)) else Ok name

    by_tests : (text : List ℕ) (named : Bool) → is_name text ≡ named → (twice : Bool) → list_any (has_name text) before ≡ twice
        → (if not named then Err (fault.BadName (length before)) else if twice then Err (fault.DoubleName (length before)) else Ok text) ≡ Ok name
        → (text ≡ name) × ((is_name text ≡ true) × (list_any (has_name text) before ≡ false))
    by_tests text true e false f is = (cc, (e, f))
    by_tests text true e true f is = absurd (cc)
    by_tests text false e twice f is = absurd (cc)

class_says : (t : ℕ) (d : Option Data) (class : Class) → class_in t d ≡ Ok class → (word : List ℕ) × (d ≡ Some (string word)) × (symmetry_class word ≡ Some class)
class_says t d class is =
    let text = then_parts (required_text (place.Tile t) key.Class d) (λ text. ok_or (symmetry_class text) (fault.BadClass t)) class is in
    (text.0, text_there (place.Tile t) key.Class d text.0 text.1, there (symmetry_class text.0) (fault.BadClass t) class text.2)

weight_is : (z : ℤ) (w : ℕ) → tile_weight z ≡ Some w → z ≡ pos w
weight_is (negsuc n) w is = absurd (cc)
weight_is (pos n) w is = by_test (nat_le 1 n && nat_le n 1000000) is
  where
    by_test : (b : Bool) → (if b then Some n else None) ≡ Some w → pos n ≡ pos w
    by_test true is = let same : n ≡ w = cc in ap pos same
    by_test false is = absurd (cc)

weight_says : (t : ℕ) (d : Option Data) (w : ℕ) → weight_in t d ≡ Ok w → ((d ≡ None) × (w ≡ 1)) ⊎ (d ≡ Some (integer (pos w)))
weight_says t None w is = inl (refl, cc)
weight_says t (Some d) w is =
    let number = then_parts (ok_or (as_integer d) (fault.WrongKind (place.Tile t) key.Weight)) (λ z. ok_or (tile_weight z) (fault.BadWeight t)) w is in
    let read = integer_there d number.0 (there (as_integer d) (fault.WrongKind (place.Tile t) key.Weight) number.0 number.1) in
    inr (ap Some (read ∙ ap integer (weight_is number.0 w (there (tile_weight number.0) (fault.BadWeight t) w number.2))))

picture_says : (t : ℕ) (d : Option Data) (picture : Option (List ℕ)) → picture_in t d ≡ Ok picture → d ≡ option_map string picture
picture_says t None picture is = let same : None ≡ picture = cc in ap (option_map string) same
picture_says t (Some d) picture is =
    let name = then_parts (ok_or (as_str d) (fault.WrongKind (place.Tile t) key.Picture)) (λ name. let made : Result (Option (List ℕ)) TileFault = Ok (Some name) in made) picture is in
    let read = str_there d name.0 (there (as_str d) (fault.WrongKind (place.Tile t) key.Picture) name.0 name.1) in
    let same : Some name.0 ≡ picture = cc (name.2) in
    ap Some read ∙ ap (option_map string) same

made_tile : (before : List TileView) (name : List ℕ) (class : Class) (weight : ℕ) (picture : Option (List ℕ)) (tile : TileView) → behind_picture before name class weight picture ≡ Ok tile → tile_with name class weight picture ≡ tile
made_tile before name class weight picture tile is = by_test (fits_first before picture) is
  where
    by_test : (b : Bool) → (if b then Ok (tile_with name class weight picture) else Err (fault.MixedKinds (length before))) ≡ Ok tile → tile_with name class weight picture ≡ tile
    by_test true is = cc
    by_test false is = absurd (cc)

-- a tile that is said, of a name that none before it has
record SaysNext (before : List TileView) (ms : Members) (tile : TileView) : Type 0 where
  said : SaysTile ms tile
  apart : list_any (has_name tile.name) before ≡ false

tile_says : (before : List TileView) (ms : Members) (tile : TileView) → tile_from before ms ≡ Ok tile → SaysNext before ms tile
tile_says before ms tile is =
    let name = then_parts (name_in before (get_member (codes "name") ms)) (behind_name before ms) tile is in
    let class = then_parts (class_in (length before) (get_member (codes "class") ms)) (behind_class before ms name.0) tile name.2 in
    let weight = then_parts (weight_in (length before) (get_member (codes "weight") ms)) (behind_weight before ms name.0 class.0) tile class.2 in
    let picture = then_parts (picture_in (length before) (get_member (codes "picture") ms)) (behind_picture before name.0 class.0 weight.0) tile weight.2 in
    let names = name_says before (get_member (codes "name") ms) name.0 name.1 in
    let words = class_says (length before) (get_member (codes "class") ms) class.0 class.1 in
    subst (SaysNext before ms) (made_tile before name.0 class.0 weight.0 picture.0 tile picture.2) (record {
      said = record {
        name = names.0;
        is_name = names.1;
        word = words.0;
        class = words.1;
        class_is = words.2;
        weight = weight_says (length before) (get_member (codes "weight") ms) weight.0 weight.1;
        picture = picture_says (length before) (get_member (codes "picture") ms) picture.0 picture.1;
      };
      apart = names.2;
    })

-- the tiles that elements say behind others
record SaysTiles (before : List TileView) (items : Items) (tiles : List TileView) : Type 0 where
  more : List TileView
  is : tiles ≡ before ++ more
  said : AreSaid SaysTile items more
  apart : AreNamedBehind before more

tiles_say : (items : Items) (before tiles : List TileView) → tiles_from before items ≡ Ok tiles → SaysTiles before items tiles
tiles_say no_items before tiles is = let same : before ≡ tiles = cc in record { more = []; is = sym same ∙ sym (append-nil before); said = record {}; apart = record {} }
tiles_say (item d ds) before tiles is =
    let tile = then_parts (tile_in before d) (λ tile. tiles_from (before ++ tile ∷ []) ds) tiles is in
    let members = then_parts (table_in (place.Tile (length before)) key.Tile d) (tile_from before) tile.0 tile.1 in
    let next = tile_says before members.0 tile.0 members.2 in
    let later = tiles_say ds (before ++ tile.0 ∷ []) tiles tile.2 in
    record {
      more = tile.0 ∷ later.more;
      is = later.is ∙ append_assoc before (tile.0 ∷ []) later.more;
      said = (record { members = members.0; is = table_there d members.0 (there (as_table d) (fault.WrongKind (place.Tile (length before)) key.Tile) members.0 members.1); said = next.said }, later.said);
      apart = (next.apart, later.apart);
    }

-- ---- the document

elements_say : (which : Key) (d : Option Data) (items : Items) → elements_in which d ≡ Ok items → ((d ≡ None) × (items ≡ no_items)) ⊎ (d ≡ Some (array items))
elements_say which None items is = inl (refl, cc)
elements_say which (Some d) items is = inr (ap Some (array_there d items (there (as_array d) (fault.WrongKind place.Top which) items is)))

some_said : (d : Option Data) (items : Items) (tiles : List TileView) → some_tiles items ≡ Ok tiles → ((d ≡ None) × (items ≡ no_items)) ⊎ (d ≡ Some (array items)) → (d ≡ Some (array items)) × SaysTiles [] items tiles
some_said d no_items tiles is either = absurd (cc)
some_said d (item e ds) tiles is (inl (none, empty)) = absurd (cc)
some_said d (item e ds) tiles is (inr there_is) = (there_is, tiles_say (item e ds) [] tiles is)

set_says : (ms : Members) (set : TileSetView) → set_from ms ≡ Ok set → SaysSet ms set
set_says ms set is =
    let tile_items = then_parts (elements_in key.Tile (get_member (codes "tile") ms)) (behind_tile_items ms) set is in
    let pair_items = then_parts (elements_in key.Pair (get_member (codes "pair") ms)) (behind_arrays tile_items.0) set tile_items.2 in
    let kept = then_parts (result_then (some_tiles tile_items.0) few_variants) (behind_tiles pair_items.0) set pair_items.2 in
    let some = then_parts (some_tiles tile_items.0) few_variants kept.0 kept.1 in
    let pairs = then_parts (pairs_from kept.0 [] pair_items.0) (λ pairs. let made : Result TileSetView TileFault = Ok (set_with kept.0 pairs) in made) set kept.2 in
    let few = few_kept some.0 kept.0 some.2 in
    let said = some_said (get_member (codes "tile") ms) tile_items.0 some.0 some.1 (elements_say key.Tile (get_member (codes "tile") ms) tile_items.0 tile_items.1) in
    let tiles : said.1.more ≡ kept.0 = sym said.1.is ∙ few.0 in
    let paired = pairs_say kept.0 pair_items.0 [] pairs.0 pairs.1 in
    let same : set_with kept.0 pairs.0 ≡ set = cc (pairs.2) in
    subst (SaysSet ms) same (record {
      tile_items = tile_items.0;
      pair_items = pair_items.0;
      tile_array = said.0;
      pair_array = elements_say key.Pair (get_member (codes "pair") ms) pair_items.0 pair_items.1;
      tiles = subst (AreSaid SaysTile tile_items.0) tiles said.1.said;
      pairs = subst (AreSaid (SaysPair kept.0) pair_items.0) (sym paired.is) paired.said;
      apart = subst (AreNamedBehind []) tiles said.1.apart;
      tile_set = set_read ms (set_with kept.0 pairs.0) (is ∙ ap Ok (sym same));
      none_taken = refl;
    })

-- bytes that are read as a tile set spell a document that says it
pub document_says : (bytes : List ℕ) (set : TileSetView) → set_of bytes ≡ Ok set → (ms : Members) × (parsed_document bytes ≡ Ok ms) × SaysSet ms set
document_says bytes set is = let ms = then_parts (parsed_document bytes) set_from set is in (ms.0, ms.1, set_says ms.0 set ms.2)
