-- The ranges of a request's values, by groups.
use Rattle.std.specs.Prelude.{◌≡◌, ◌≢◌, ◌+◌, ◌≤◌, true, false, codes, IsSome, None}
use Rattle.wfc_choose.specs.declared.RuleKind.TheVariants.{Ranked}
use Rattle.wfc_model.specs.declared.TheConstants.{MAX_OUTPUT_SIDE}
use Rattle.wfc_words.specs.Commands.{requires_word}
use Rattle.wfc_words.specs.Named.{is_rankable, takes_tiles}
use Rattle.wfc_words.specs.Numbers.{least_block}
use Rattle.wfc_words.specs.RequestView.{RequestView}
use Rattle.wfc_words.specs.ValueWords.{word_of}
use Rattle.wfc_words.specs.Values.{is_sample}
use Rattle.wfc_words.specs.declared.fault.ValueName.TheVariants as names
use Rattle.wfc_words.specs.declared.kinds.SourceModel.{SourceModel}
use Rattle.wfc_words.specs.declared.kinds.SourceModel.TheVariants.{Overlap, Tiles}

-- the side of a window is from 1 to 6
abbrev pub IsModel : SourceModel → Type 0
IsModel (Overlap n) = (1 ≤ n) × (n ≤ 6)
IsModel Tiles = Unit {0}

-- the model and the sides are those of a command that has them, the model is one that its map may have, and one image at
-- least counts
pub record IsMapInRange (asked : RequestView) : Type 0 where
  pub model : requires_word asked.command (word_of names.Model) ≡ true → IsModel asked.source
  pub untiled : takes_tiles asked.command ≡ false → asked.source ≢ Tiles
  pub some_width : requires_word asked.command (word_of names.Width) ≡ true → 1 ≤ asked.width
  pub width_limit : asked.width ≤ MAX_OUTPUT_SIDE
  pub some_height : requires_word asked.command (word_of names.Height) ≡ true → 1 ≤ asked.height
  pub height_limit : asked.height ≤ MAX_OUTPUT_SIDE
  pub some_image : 1 ≤ asked.symmetry
  pub eight_images : asked.symmetry ≤ 8

-- a run's seed fits 64 bits, and its rule is one that the command's runs may have
pub record IsRunInRange (asked : RequestView) : Type 0 where
  pub seed_limit : asked.seed ≤ 18446744073709551615
  pub budget_limit : asked.budget ≤ 1000000000
  pub unranked : is_rankable asked.command ≡ false → asked.rule ≢ Ranked

-- the number of a demonstration, the format of a refutation, and a mask for a tile map alone
pub record IsWritingInRange (asked : RequestView) : Type 0 where
  pub number_limit : asked.number ≤ 1000000
  pub some_format : 1 ≤ asked.format
  pub two_formats : asked.format ≤ 2
  pub unmasked : is_sample asked.source ≡ true → asked.mask ≡ None

-- the seeds of a race all fit 64 bits
pub record IsRaceInRange (asked : RequestView) : Type 0 where
  pub some_seeds : requires_word asked.command (word_of names.Seeds) ≡ true → 1 ≤ asked.seeds
  pub eight_seeds : asked.seeds ≤ 8
  pub seeds_fit : asked.seed + asked.seeds ≤ 18446744073709551616
  pub some_quantum : 1 ≤ asked.quantum
  pub quantum_limit : asked.quantum ≤ 1000000

-- a block holds a window, and a box has a layer
pub record IsSpaceInRange (asked : RequestView) : Type 0 where
  pub some_block : requires_word asked.command (word_of names.Model) ≡ true → least_block asked.source ≤ asked.block
  pub block_limit : asked.block ≤ MAX_OUTPUT_SIDE
  pub some_depth : requires_word asked.command (word_of names.Depth) ≡ true → 1 ≤ asked.depth
  pub depth_limit : asked.depth ≤ 256

-- each value is in its range; and a command that demands a file of pins has a name of one, be it empty, since `word_text`
-- gives a text to each word that must be there
pub record IsInRange (asked : RequestView) : Type 0 where
  pub map : IsMapInRange asked
  pub run : IsRunInRange asked
  pub writing : IsWritingInRange asked
  pub race : IsRaceInRange asked
  pub space : IsSpaceInRange asked
  pub pins : requires_word asked.command (codes "pins") ≡ true → IsSome asked.pins
