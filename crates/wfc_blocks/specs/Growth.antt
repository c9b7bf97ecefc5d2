-- Growth: block after block is filled by the run of its own problem, and keeps what the blocks
-- before it set.
use Rattle.std.specs.Prelude.{◌≡◌, ℕ, ◌+◌, ◌%◌, ◌^◌, ◌<◌, ◌≤◌, All, List, [], ◌∷◌, Option, Some, take}
use Rattle.wfc_choose.specs.Pick.{Rule}
use Rattle.wfc_model.specs.Legal.{Pin}
use Rattle.wfc_model.specs.Raster.{Raster}
use Rattle.wfc_pattern.specs.Patterns.{PatternsView}
use Rattle.wfc_problem.specs.Network.{Network}
use Rattle.wfc_problem.specs.declared.TheConstants.{MAX_PAIRS}
use Rattle.wfc_overlap.specs.Bridge.{window_pair_count, picture_of}
use Rattle.wfc_overlap.specs.Sample.{problem_of_sample}
use Rattle.wfc_runs.specs.Words.{words_of_seed}
use Rattle.wfc_search.specs.Ends.{EndsIn}
use Rattle.wfc_search.specs.Run.{State, outcome_of}
use Rattle.wfc_search.specs.Search.{assignment_of}
use Rattle.wfc_search.specs.declared.Outcome.{Outcome}
use Rattle.wfc_search.specs.declared.Outcome.TheVariants as outcome
use Rattle.wfc_blocks.specs.Blocks.{Area, block_at, blocks_of, output_of_block}
use Rattle.wfc_blocks.specs.Canvas.{Canvas, empty_canvas, pins_of_block, with_block}
use Rattle.wfc_blocks.specs.declared.block.Block.{Block}

-- what an area is grown by: the patterns of a sample, the pins and bans of the area, a rule, the
-- budget of each block, and a seed
pub record Terms : Type 0 where
  pub patterns : PatternsView
  pub pins : List Pin
  pub rule : Rule
  pub budget : ℕ
  pub seed : ℕ

-- the problem of a block, where this is set
abbrev pub problem_of_block : Terms → Canvas → Block → Network
problem_of_block terms canvas block =
    problem_of_sample terms.patterns (output_of_block block) (pins_of_block terms.pins canvas block)

-- the seed of a block
abbrev pub seed_of_block : ℕ → Block → ℕ
seed_of_block seed block = (seed + block.number) % 2 ^ 64

-- the end of the run of a block
abbrev pub block_end : Terms → Canvas → Block → Option (Outcome × State)
block_end terms canvas block =
    outcome_of (problem_of_block terms canvas block) terms.rule terms.budget
    (words_of_seed (seed_of_block terms.seed block))

-- the run of a block, where this is set, has this outcome
abbrev pub HasBlockOutcome : Terms → Canvas → Block → Outcome → Type 0
HasBlockOutcome terms canvas block ended =
    EndsIn (problem_of_block terms canvas block) terms.rule terms.budget
    (words_of_seed (seed_of_block terms.seed block)) ended

-- the picture of a block whose run ends in a map at this state
abbrev pub picture_of_block : Terms → Canvas → Block → State → Raster
picture_of_block terms canvas block s =
    picture_of terms.patterns (output_of_block block)
    (assignment_of (problem_of_block terms canvas block) s.standing)

-- how growth ends: this is set; or this block has no map, where this is set; or the budget of a block
-- was spent
pub data Growth : Type 0 where
  full : Canvas → Growth
  stopped : Block → Canvas → Growth
  spent : Growth

-- how growth goes on after the run of a block; a run always has an end, so that the last line is read
-- of those that are spent alone
abbrev pub after_end
    : Terms → Canvas → Block → Option (Outcome × State) → (Canvas → Growth) → Growth
after_end terms canvas block (Some (outcome.Map, s)) go_on =
    go_on (with_block canvas block (picture_of_block terms canvas block s))
after_end terms canvas block (Some (outcome.NoMap, s)) go_on = stopped block canvas
after_end terms canvas block _ go_on = spent

-- growth over these blocks, where this is set
abbrev pub growth_over : Terms → List Block → Canvas → Growth
growth_over terms [] canvas = full canvas
growth_over terms (block ∷ blocks) canvas =
    after_end terms canvas block (block_end terms canvas block)
    (λ next. growth_over terms blocks next)

-- growth over all blocks of an area
abbrev pub growth_of : Area → Terms → Growth
growth_of area terms = growth_over terms (blocks_of terms.patterns.n area) empty_canvas

-- growth over an area stops at this block, where this is set
abbrev pub IsStoppedAt : Area → Terms → Block → Canvas → Type 0
IsStoppedAt area terms block canvas = growth_of area terms ≡ stopped block canvas

-- growth over the blocks of an area before this one, from where nothing is set, sets this
abbrev pub IsSetBefore : Area → Terms → Block → Canvas → Type 0
IsSetBefore area terms block canvas =
    growth_over terms (take block.number (blocks_of terms.patterns.n area)) empty_canvas ≡ full canvas

-- the area and a block have room for a window, and the first block, which is the largest, has few
-- enough pairs of a place and a pattern
pub record IsGrowable (patterns : PatternsView) (area : Area) : Type 0 where
  pub wide : patterns.n ≤ area.width
  pub high : patterns.n ≤ area.height
  pub long : patterns.n ≤ area.side
  pub few_pairs : window_pair_count patterns (output_of_block (block_at patterns.n area 0)) ≤ MAX_PAIRS

-- each number of each pattern is below this
abbrev pub AreNumbersBelow : ℕ → PatternsView → Type 0
AreNumbersBelow limit patterns =
    All (λ window. All (λ number. number < limit) window) patterns.windows
