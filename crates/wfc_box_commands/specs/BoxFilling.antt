-- What holds of what `box-fill` works on, whatever the files are.
use Rattle.std.specs.Prelude.{List, None, Ok, length, ℕ, ◌≡◌}
use Rattle.wfc_box.specs.BoxProblem.{problem_of_box}
use Rattle.wfc_box.specs.Boxes.{LayerPin}
use Rattle.wfc_box_commands.specs.BoxSteps.{frame_asked, box_form}
use Rattle.wfc_box_commands.specs.declared.filling.BoxFilling.{BoxFilling}
use Rattle.wfc_problem.specs.Network.{Network}
use Rattle.wfc_tileset.specs.Pictures.{picture_name}
use Rattle.wfc_tileset.specs.Tiles.{TileSetView}
use Rattle.wfc_words.specs.RequestView.{RequestView}

-- the problem is that of these tiles and of the box asked for, for some stacked pairs and pins
pub record IsBoxed (asked : RequestView) (set : TileSetView) (P : Network) : Type 0 where
  pub stacked : List (ℕ × ℕ)
  pub pins : List LayerPin
  pub problem : P ≡ problem_of_box set stacked (frame_asked asked) pins

-- what `box-fill` works on: the form, and the problem of a box of the tile set, whose pictures are all taken
pub record IsBoxFilling (asked : RequestView) (task : BoxFilling) : Type 0 where
  pub layout : box_form task.tiles asked ≡ Ok task.form
  pub boxed : IsBoxed asked task.tiles task.problem
  pub pictured : picture_name task.tiles (length task.tiles.pictures) ≡ None
