-- The text of the line of a fault: which kind of line it is, and the file that it names.
use Rattle.std.specs.Prelude.{List, ℕ}
use Rattle.wfc_grid.specs.declared.reading.GridFault.{GridFault}
use Rattle.wfc_lines.specs.Build.{text_of_build}
use Rattle.wfc_lines.specs.Command.{text_of_chooser}
use Rattle.wfc_lines.specs.Grid.{text_of_grid}
use Rattle.wfc_lines.specs.Grow.{text_of_many_blocks}
use Rattle.wfc_lines.specs.Learn.{text_of_learn}
use Rattle.wfc_lines.specs.Mask.{text_of_mask, text_of_mask_grid}
use Rattle.wfc_lines.specs.Outcome.{no_memory_text}
use Rattle.wfc_lines.specs.Palette.{text_of_palette}
use Rattle.wfc_lines.specs.Pins.{text_of_pins}
use Rattle.wfc_lines.specs.Ppm.{text_of_ppm}
use Rattle.wfc_lines.specs.Explain.{text_of_many_pins}
use Rattle.wfc_lines.specs.Race.{text_of_race}
use Rattle.wfc_lines.specs.Reading.{text_of_reading}
use Rattle.wfc_lines.specs.Render.{text_of_render}
use Rattle.wfc_lines.specs.Stacks.{text_of_stacks}
use Rattle.wfc_lines.specs.Steps.{text_of_range, text_of_steps}
use Rattle.wfc_lines.specs.Tiles.{text_of_tiles}
use Rattle.wfc_outside.specs.declared.whole.ReadFault.{ReadFault}
use Rattle.wfc_outside.specs.declared.whole.ReadFault.TheVariants as reads
use Rattle.wfc_plan.specs.declared.fault.Fault.{Fault}
use Rattle.wfc_plan.specs.declared.fault.Fault.TheVariants.{Refused, Unread}
use Rattle.wfc_plan.specs.declared.fault.Refusal.{Refusal}
use Rattle.wfc_plan.specs.declared.fault.Refusal.TheVariants as refused
use Rattle.wfc_plan.specs.declared.fault.Source.{Source}
use Rattle.wfc_plan.specs.declared.fault.Source.TheVariants as source
use Rattle.wfc_reply.specs.FileNames.{name_of}
use Rattle.wfc_tileset.specs.declared.fault.TileFault.TheVariants as tiles
use Rattle.wfc_words.specs.RequestView.{RequestView}
use Rattle.wfc_words.specs.declared.fault.CommandFault.{CommandFault}
use Rattle.wfc_words.specs.declared.fault.CommandFault.TheVariants as words

-- the exit status of words that were read as no request
abbrev pub command_status : CommandFault → ℕ
command_status words.NoMemory = 6
command_status _ = 3

-- the text of a file that is no grid; that of a mask says so in the word for masks
abbrev pub no_grid_text : Source → GridFault → List ℕ → List ℕ
no_grid_text source.Mask fault file = text_of_mask_grid fault file
no_grid_text _ fault file = text_of_grid fault file

-- the text of the picture of a tile that isn't read: it is told by the tile, and one that is too long is none
abbrev pub tile_picture_text : ℕ → ReadFault → List ℕ → List ℕ
tile_picture_text tile reads.Missing file = text_of_tiles (tiles.Missing tile) file
tile_picture_text tile reads.Failed file = text_of_tiles (tiles.Failed tile) file
tile_picture_text tile reads.TooLong file = text_of_tiles (tiles.BadPicture tile) file
tile_picture_text tile reads.NoMemory file = text_of_tiles tiles.NoMemory file

-- the text of a file that isn't read
abbrev pub unread_text : Source → ReadFault → List ℕ → List ℕ
unread_text (source.Picture tile) fault file = tile_picture_text tile fault file
unread_text _ fault file = text_of_reading fault file

-- the text of a refusal
abbrev pub refusal_text : RequestView → Refusal → List ℕ
refusal_text asked (refused.Chooser rule) = text_of_chooser rule
refusal_text asked (refused.Grid which fault) = no_grid_text which fault (name_of asked which)
refusal_text asked (refused.Ppm which fault) = text_of_ppm fault (name_of asked which)
refusal_text asked (refused.Colours fault) = text_of_palette fault (name_of asked source.Sample)
refusal_text asked (refused.Learn fault) = text_of_learn fault (name_of asked source.Sample)
refusal_text asked (refused.Render fault) = text_of_render fault
refusal_text asked (refused.Pins fault) = text_of_pins fault (name_of asked source.Pins)
refusal_text asked (refused.Build fault) = text_of_build fault (name_of asked source.Pins)
refusal_text asked (refused.Steps fault) = text_of_steps fault (name_of asked source.Steps)
refusal_text asked (refused.Range fault) = text_of_range fault (name_of asked source.Steps)
refusal_text asked (refused.TooLong which) = text_of_reading reads.TooLong (name_of asked which)
refusal_text asked refused.NoMemory = no_memory_text
refusal_text asked (refused.Tiles fault) = text_of_tiles fault (name_of asked source.Sample)
refusal_text asked (refused.Mask fault) = text_of_mask fault (name_of asked source.Mask)
refusal_text asked (refused.Stacks fault) = text_of_stacks fault (name_of asked source.Sample)
refusal_text asked (refused.RaceTooLarge product) = text_of_race product
refusal_text asked (refused.TooManyPins count) = text_of_many_pins count (name_of asked source.Pins)
refusal_text asked (refused.TooManyBlocks count) = text_of_many_blocks count

-- the text of a fault; a file is named as the words do
abbrev pub fault_text : RequestView → Fault → List ℕ
fault_text asked (Unread which fault) = unread_text which fault (name_of asked which)
fault_text asked (Refused refusal) = refusal_text asked refusal
