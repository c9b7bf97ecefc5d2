-- Tile sets with stacks, pins and problems of boxes over files that are told, in the subject's words.
use Rattle.std.specs.Prelude.{List, None, Ok, Option, Some, [], ℕ, ◌≡◌, ◌≤◌}
use Rattle.wfc_box.specs.BoxPinView.{BoxPinView}
use Rattle.wfc_box.specs.BoxPins.{box_pins_of}
use Rattle.wfc_box.specs.BoxProblem.{problem_of_box}
use Rattle.wfc_box.specs.Boxes.{LayerPin}
use Rattle.wfc_box.specs.Built.{box_pairs, box_pins_in}
use Rattle.wfc_box.specs.StackDocument.{stacks_of}
use Rattle.wfc_box.specs.Stacks.{stacked_pairs}
use Rattle.wfc_box.specs.declared.stack.Stack.{Stack}
use Rattle.wfc_box_commands.specs.BoxPlans.{StackedSet}
use Rattle.wfc_box_commands.specs.BoxSteps.{frame_asked}
use Rattle.wfc_outside.specs.Folder.{File}
use Rattle.wfc_plan.specs.Files.{IsFile}
use Rattle.wfc_problem.specs.Network.{Network}
use Rattle.wfc_problem.specs.declared.TheConstants.{MAX_PAIRS}
use Rattle.wfc_task.specs.TileGiven.{IsTileSetOf}
use Rattle.wfc_words.specs.RequestView.{RequestView}

-- the file asked for spells this tile set, and the stacks that the same document declares allow these pairs
pub record IsStackedSetOf (asked : RequestView) (files : List File) (made : StackedSet) : Type 0 where
  pub tiles : IsTileSetOf asked files made.0
  pub stacks : List Stack
  pub declared : stacks_of made.0.tiles tiles.bytes ≡ Ok stacks
  pub allowed : made.1 ≡ stacked_pairs made.0.tiles stacks

-- the pins file has these lines; there are none where no file is named
abbrev pub HoldsBoxPins : List File → Option (List ℕ) → List BoxPinView → Type 0
HoldsBoxPins files None lines = [] ≡ lines
HoldsBoxPins files (Some name) lines = (bytes : List ℕ) × IsFile files name bytes × (box_pins_of bytes ≡ Ok lines)

-- the problem of this tile set and these pairs, for the box that is asked for and the pins that the lines of the pins
-- file mean
pub record IsBoxProblemOf (asked : RequestView) (files : List File) (made : StackedSet) (P : Network) : Type 0 where
  pub lines : List BoxPinView
  pub held : HoldsBoxPins files asked.pins lines
  pub few_pairs : box_pairs made.0 (frame_asked asked) ≤ MAX_PAIRS
  pub pins : List LayerPin
  pub meant : box_pins_in made.0.tiles (frame_asked asked) lines ≡ Ok pins
  pub problem : P ≡ problem_of_box made.0 made.1 (frame_asked asked) pins
