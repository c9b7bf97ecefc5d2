-- The answer of `box-fill` to its task.
use Rattle.std.specs.Prelude.{List, Option, ℕ}
use Rattle.wfc_box.specs.BoxText.{box_text}
use Rattle.wfc_box.specs.Boxes.{box_of}
use Rattle.wfc_box_commands.specs.BoxSteps.{frame_asked}
use Rattle.wfc_box_commands.specs.declared.filling.BoxFilling.{BoxFilling}
use Rattle.wfc_choose.specs.Pick.{Rule}
use Rattle.wfc_map_commands.specs.FillAnswer.{fill_by}
use Rattle.wfc_render.specs.declared.form.Form.{Form}
use Rattle.wfc_reply.specs.Reply.{Answered}
use Rattle.wfc_tileset.specs.Tiles.{TileSetView}
use Rattle.wfc_words.specs.RequestView.{RequestView}

-- the text of the box that an assignment of variants makes
abbrev pub layers_text : RequestView → TileSetView → Form → List ℕ → List ℕ
layers_text asked set form a = box_text form set (box_of (frame_asked asked) a)

-- the answer of `box-fill` by these rules to what the code works on
abbrev pub box_filling_answer : List Rule → RequestView → BoxFilling → Option Answered
box_filling_answer rules asked filling =
    fill_by rules asked (layers_text asked filling.tiles filling.form) filling.problem
