use Rattle.std.specs.Prelude.{All}
use Rattle.wfc_pins.proofs.CallerLemmas.{IsReadTo}
use Rattle.wfc_tiled.specs.Built.{tile_map_pin, tile_map_pins}
use Rattle.wfc_tiled.specs.Maps.{IsPlaced}
use Rattle.wfc_tiled.proofs.pins.marks.Given as goal

abbrev pub invariant-loop-line : goal.invariant-loop-line
invariant-loop-line l = record {
  whole : IsReadTo (tile_map_pin l.tiles.tiles l.mask) l.pins (tile_map_pins l.tiles.tiles l.mask l.pins) l.line-index l.marks.items;
  placed : All (IsPlaced l.mask) l.marks.items;
}
