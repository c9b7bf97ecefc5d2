-- The pixels of the rows so far are written.
use Rattle.std.proofs.Common.{◌≡◌, ◌++◌, take}
use Rattle.std.specs.List.{concat}
use Rattle.wfc_model.specs.Raster.{height_of}
use Rattle.wfc_render.specs.Colours.{picture_head, pixels_in}
use Rattle.wfc_render.proofs.colours.colour_rows.Given as goal

abbrev pub invariant-loop-y : goal.invariant-loop-y
invariant-loop-y l = l.text.items ≡ picture_head l.form l.picture.width (height_of l.picture) l.maxval ++ pixels_in l.form l.maxval l.palette (concat (take l.y l.picture.rows))
