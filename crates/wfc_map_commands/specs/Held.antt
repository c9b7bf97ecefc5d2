-- What the code holds of a task: the problem, and the texts that are made of it, by what the map is made of.
use Rattle.std.specs.Prelude.{List, ℕ}
use Rattle.wfc_map_commands.specs.FillAnswer.{picture_text, tiles_text}
use Rattle.wfc_map_commands.specs.declared.filling.Filled.{Filled}
use Rattle.wfc_map_commands.specs.declared.filling.Filled.TheVariants as filled
use Rattle.wfc_map_commands.specs.declared.learning.Learned.{Learned}
use Rattle.wfc_map_commands.specs.declared.learning.Learned.TheVariants as learned
use Rattle.wfc_problem.specs.Network.{Network}
use Rattle.wfc_render.specs.Learned.{learned_text}
use Rattle.wfc_render.specs.LearnedTiles.{learned_tiles_text}
use Rattle.wfc_task.specs.Tiling.{mask_or_whole}
use Rattle.wfc_words.specs.RequestView.{RequestView}

-- the text of the rules of a sample or of a tile set
abbrev pub rules_text : Learned → List ℕ
rules_text (learned.Windows taught) = learned_text taught.patterns taught.palette
rules_text (learned.Tiles set) = learned_tiles_text set

-- the problem that `fill` runs on
abbrev pub problem_in : Filled → Network
problem_in (filled.Windows made) = made.problem
problem_in (filled.Tiles made) = made.problem

-- the text of the map that an assignment makes
abbrev pub text_of_assignment : RequestView → Filled → List ℕ → List ℕ
text_of_assignment asked (filled.Windows made) a = picture_text asked made.patterns made.palette made.layout a
text_of_assignment asked (filled.Tiles made) a = tiles_text made.tiles (mask_or_whole asked made.mask) made.layout a
