-- The texts of a document that is no tile set; the file is the document's, of a tile's picture too.
use Rattle.std.specs.Prelude.{ℕ, List, ◌++◌, codes, decimal}
use Rattle.wfc_tileset.specs.declared.fault.Key.{Key}
use Rattle.wfc_tileset.specs.declared.fault.Key.TheVariants as keys
use Rattle.wfc_tileset.specs.declared.fault.Place.{Place}
use Rattle.wfc_tileset.specs.declared.fault.Place.TheVariants as places
use Rattle.wfc_tileset.specs.declared.fault.TileFault.{TileFault}
use Rattle.wfc_tileset.specs.declared.fault.TileFault.TheVariants as faults
use Rattle.wfc_lines.specs.Line.{about, numbered_text}
use Rattle.wfc_lines.specs.Outcome.{no_memory_text}

-- a key is named as the document spells it
abbrev pub name_of_key : Key → List ℕ
name_of_key keys.Tile = codes "tile"
name_of_key keys.Pair = codes "pair"
name_of_key keys.Name = codes "name"
name_of_key keys.Class = codes "class"
name_of_key keys.Weight = codes "weight"
name_of_key keys.Picture = codes "picture"
name_of_key keys.Left = codes "left"
name_of_key keys.Right = codes "right"

-- a place is the top of the document, or a tile or a pair by its number
abbrev pub text_of_place : Place → List ℕ
text_of_place places.Top = codes " top"
text_of_place (places.Tile tile) = codes " tile=" ++ decimal tile
text_of_place (places.Pair pair) = codes " pair=" ++ decimal pair

-- a text, a place and a key, and the name of the file that it speaks of
abbrev pub keyed_text : List ℕ → List ℕ → List ℕ → List ℕ → List ℕ
keyed_text text place key file = about (text ++ place ++ codes " key=" ++ key) file

-- why a document is no tile set, with the tile or the pair that is at fault, or why the picture of a tile was not read
abbrev pub text_of_tiles : TileFault → List ℕ → List ℕ
text_of_tiles faults.Toml file = about (codes "tiles Toml") file
text_of_tiles faults.NoTiles file = about (codes "tiles NoTiles") file
text_of_tiles (faults.MissingKey place key) file =
    keyed_text (codes "tiles MissingKey") (text_of_place place) (name_of_key key) file
text_of_tiles (faults.WrongKind place key) file =
    keyed_text (codes "tiles WrongKind") (text_of_place place) (name_of_key key) file
text_of_tiles (faults.BadClass tile) file = numbered_text (codes "tiles BadClass tile=") tile file
text_of_tiles (faults.BadWeight tile) file = numbered_text (codes "tiles BadWeight tile=") tile file
text_of_tiles (faults.BadPicture tile) file = numbered_text (codes "tiles BadPicture tile=") tile file
text_of_tiles (faults.SizeDiffers tile) file = numbered_text (codes "tiles SizeDiffers tile=") tile file
text_of_tiles (faults.DoubleName tile) file = numbered_text (codes "tiles DoubleName tile=") tile file
text_of_tiles (faults.UnknownTile pair) file = numbered_text (codes "tiles UnknownTile pair=") pair file
text_of_tiles (faults.BadTurn pair) file = numbered_text (codes "tiles BadTurn pair=") pair file
text_of_tiles (faults.TooManyVariants count) file = numbered_text (codes "tiles TooManyVariants count=") count file
text_of_tiles (faults.Missing tile) file = numbered_text (codes "device Missing tile=") tile file
text_of_tiles (faults.Failed tile) file = numbered_text (codes "device Failed tile=") tile file
text_of_tiles (faults.MixedKinds tile) file = numbered_text (codes "tiles MixedKinds tile=") tile file
text_of_tiles faults.NoMemory file = no_memory_text
text_of_tiles (faults.BadName tile) file = numbered_text (codes "tiles BadName tile=") tile file
