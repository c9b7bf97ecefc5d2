-- What goes by the plan for the tiles that are left, goes by the plan for all.
use Rattle.std.proofs.Common.{Result, length, ◌-◌}
use Rattle.wfc_outside.specs.Folder.{FolderView}
use Rattle.wfc_plan.specs.Plan.{Goes}
use Rattle.wfc_plan.specs.declared.fault.Fault.{Fault}
use Rattle.wfc_task.proofs.tile_files.pictures.Given as goal
use Rattle.wfc_task.specs.TilePlans.{pictures_plan}
use Rattle.wfc_tileset.specs.Tiles.{TileSetView}

abbrev pub invariant-loop : goal.invariant-loop
invariant-loop g l = (after : FolderView) (result : Result TileSetView Fault) → Goes (pictures_plan (l.end - l.counter) l.tiles) (g.F.Folder.seen l.folder) after result
    → Goes (pictures_plan (length l.initial.tiles.tiles) l.initial.tiles) (g.F.Folder.seen l.initial.folder) after result
