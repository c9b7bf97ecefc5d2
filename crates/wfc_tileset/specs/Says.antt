-- What a document says of a tile set, key by key: a relation, beside the reader's order of faults.
use Rattle.std.specs.Prelude.{◌≡◌, ◌⊎◌, ℕ, ◌+◌, ◌<◌, ⊤, true, false, List, [], ◌∷◌, ◌++◌, length, codes, pos, None, Some}
use Rattle.std.specs.List.{list_any}
use Rattle.std.specs.Option.{option_map}
use Rattle.toml.specs.Data.{Data, string, integer, array, table, Items, no_items, item, Members, get_member}
use Rattle.wfc_tileset.specs.Document.{symmetry_class, has_name, is_name}
use Rattle.wfc_tileset.specs.Tiles.{TileView, TileSetView, tile_at}
use Rattle.wfc_tileset.specs.TileSets.{IsTileSet}
use Rattle.wfc_tileset.specs.declared.tile.End.{End}
use Rattle.wfc_tileset.specs.declared.tile.Pair.{Pair}

-- a table says a tile: its name, its class by a word, its weight, which is 1 where it has none, and its picture, if any
pub record SaysTile (ms : Members) (tile : TileView) : Type 0 where
  pub name : get_member (codes "name") ms ≡ Some (string tile.name)
  pub is_name : is_name tile.name ≡ true
  pub word : List ℕ
  pub class : get_member (codes "class") ms ≡ Some (string word)
  pub class_is : symmetry_class word ≡ Some tile.class
  pub weight : ((get_member (codes "weight") ms ≡ None) × (tile.weight ≡ 1))
      ⊎ (get_member (codes "weight") ms ≡ Some (integer (pos tile.weight)))
  pub picture : get_member (codes "picture") ms ≡ option_map string tile.picture

-- a text says an end of a pair: a tile's name, and behind a blank a digit, where the action isn't 0 or is said
pub record SaysEnd (tiles : List TileView) (text : List ℕ) (end : End) : Type 0 where
  pub tile_in : end.tile < length tiles
  pub turn_in : end.turn < 8
  pub text_is : ((text ≡ (tile_at tiles end.tile).name) × (end.turn ≡ 0))
      ⊎ (text ≡ (tile_at tiles end.tile).name ++ 32 ∷ (48 + end.turn) ∷ [])

-- a table says a pair
pub record SaysPair (tiles : List TileView) (ms : Members) (pair : Pair) : Type 0 where
  pub left_text : List ℕ
  pub left : get_member (codes "left") ms ≡ Some (string left_text)
  pub left_is : SaysEnd tiles left_text pair.left
  pub right_text : List ℕ
  pub right : get_member (codes "right") ms ≡ Some (string right_text)
  pub right_is : SaysEnd tiles right_text pair.right

-- an element of an array is a table that says something
pub record SaysElement {A : Type 0} (says : Members → A → Type 0) (element : Data) (a : A) : Type 0 where
  pub members : Members
  pub is : element ≡ table members
  pub said : says members a

-- the elements of an array, one by one, say these in their order
abbrev pub AreSaid : {A : Type 0} → (Members → A → Type 0) → Items → List A → Type 0
AreSaid says no_items [] = ⊤
AreSaid says (item d ds) (a ∷ more) = SaysElement says d a × AreSaid says ds more
AreSaid says no_items (a ∷ more) = ⊥
AreSaid says (item d ds) [] = ⊥

-- no tile has the name of one before it
abbrev pub AreNamedBehind : List TileView → List TileView → Type 0
AreNamedBehind before [] = ⊤
AreNamedBehind before (tile ∷ tiles) =
    (list_any (has_name tile.name) before ≡ false) × AreNamedBehind (before ++ tile ∷ []) tiles

-- a document says a tile set: an array of tiles and perhaps one of pairs say them, and they are a tile set of which no
-- picture is taken
pub record SaysSet (ms : Members) (set : TileSetView) : Type 0 where
  pub tile_items : Items
  pub pair_items : Items
  pub tile_array : get_member (codes "tile") ms ≡ Some (array tile_items)
  pub pair_array : ((get_member (codes "pair") ms ≡ None) × (pair_items ≡ no_items))
      ⊎ (get_member (codes "pair") ms ≡ Some (array pair_items))
  pub tiles : AreSaid SaysTile tile_items set.tiles
  pub pairs : AreSaid (SaysPair set.tiles) pair_items set.pairs
  pub apart : AreNamedBehind [] set.tiles
  pub tile_set : IsTileSet set
  pub none_taken : set.pictures ≡ []
