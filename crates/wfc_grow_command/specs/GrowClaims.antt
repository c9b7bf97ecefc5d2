-- What `grow` promises, in the words of its subject.
use Rattle.std.specs.List.{flat_map}
use Rattle.std.specs.Prelude.{Contains, List, Ok, Some, false, length, take, ℕ, ◌+◌, ◌++◌, ◌≡◌, ◌≤◌, ◌⊎◌}
use Rattle.wfc_blocks.specs.Blocks.{blocks_of, output_of_block}
use Rattle.wfc_blocks.specs.Canvas.{Canvas, lines_of_block}
use Rattle.wfc_blocks.specs.Growth.{HasBlockOutcome, IsSetBefore, Terms, problem_of_block}
use Rattle.wfc_blocks.specs.Grown.{terms_with}
use Rattle.wfc_blocks.specs.StuckView.{StuckView}
use Rattle.wfc_blocks.specs.declared.block.Block.{Block}
use Rattle.wfc_blocks.specs.declared.grown.Grown.{Grown}
use Rattle.wfc_blocks.specs.declared.grown.Grown.TheVariants as grown
use Rattle.wfc_choose.specs.Pick.{Rule}
use Rattle.wfc_grow_command.specs.GrowAnswer.{IsProblemOfStuck, IsGrowthBy, stuck_start, stuck_run_text}
use Rattle.wfc_grow_command.specs.GrowGiven.{IsGrowTask}
use Rattle.wfc_grow_command.specs.GrowTask.{GrowTask, area_asked}
use Rattle.wfc_grow_command.specs.StuckText.{block_shape, block_writing, pin_text, stuck_text}
use Rattle.wfc_model.specs.Legal.{IsLegalPicture, Pin, Rules}
use Rattle.wfc_model.specs.Raster.{Raster}
use Rattle.wfc_outside.specs.Folder.{File}
use Rattle.wfc_outside.specs.Sink.{SinkView, after_bytes, after_finish}
use Rattle.wfc_overlap.specs.Built.{picture_pins, picture_problem, texts_of}
use Rattle.wfc_pins.specs.PinView.{PinView}
use Rattle.wfc_pins.specs.Pins.{pins_of}
use Rattle.wfc_problem.specs.Network.{Network}
use Rattle.wfc_proof.specs.ProofText.{IsProofText}
use Rattle.wfc_proof.specs.declared.Line.{Line}
use Rattle.wfc_render.specs.Map.{map_text}
use Rattle.wfc_reply.specs.Asking.{Promises}
use Rattle.wfc_reply.specs.Call.{Call}
use Rattle.wfc_reply.specs.Choosers.{first_rule, kinds_of}
use Rattle.wfc_reply.specs.CutClaims.{CutsText}
use Rattle.wfc_reply.specs.Putting.{IsTextBrokenOff}
use Rattle.wfc_reply.specs.Reply.{HasAnswer}
use Rattle.wfc_reply.specs.RunText.{IsBegunBy, IsFrontOfText, IsToldBy, writing_text}
use Rattle.wfc_search.specs.Volume.{volume_of}
use Rattle.wfc_search.specs.declared.Outcome.TheVariants as outcome
use Rattle.wfc_task.specs.Sources.{window_side_of}
use Rattle.wfc_words.specs.RequestView.{RequestView}
use Rattle.wfc_words.specs.declared.kinds.CommandKind.TheVariants as commands

-- what `grow` works on over these files, and the rule that it goes by
pub record GrowWork (rules : List Rule) (asked : RequestView) (files : List File) : Type 0 where
  pub task : GrowTask
  pub given : IsGrowTask (kinds_of rules) asked files task
  pub rule : Rule
  pub first : first_rule asked.rule rules ≡ Some rule

-- how windows are taken from the sample and compared with those of the map, which doesn't wrap
abbrev pub grow_rules : RequestView → Rules
grow_rules asked =
    record { n = window_side_of asked.source; symmetry = asked.symmetry; wrap_in = asked.wrap_in; wrap_out = false }

-- the growth of this work ends so
abbrev pub GrowsTo : {rules : List Rule} {files : List File} (asked : RequestView) → GrowWork rules asked files → Grown → Type 0
GrowsTo asked work made = IsGrowthBy asked work.task work.rule made

-- what the map is grown by: the pins that the lines mean, the work's rule, and the budget of each block and the seed asked for
abbrev pub terms_of_work : {rules : List Rule} {files : List File} (asked : RequestView) → GrowWork rules asked files → Terms
terms_of_work asked work = terms_with work.task.patterns work.rule asked.budget asked.seed work.given.pins

-- the map is one of the whole size, whose windows are all learned from the sample, and all pins and bans hold
abbrev pub IsGrownMap : {rules : List Rule} {files : List File} (asked : RequestView) → GrowWork rules asked files → Raster → Type 0
IsGrownMap asked work m =
    IsLegalPicture work.given.sample.picture (grow_rules asked) work.given.pins asked.width asked.height m

-- the text of a map of this work
abbrev pub text_of_grown : {rules : List Rule} {files : List File} (asked : RequestView) → GrowWork rules asked files → Raster → List ℕ
text_of_grown asked work m = map_text work.task.layout work.task.palette m

-- status 0 of `grow`: the whole text of a legal map was written, and finished
abbrev pub WritesGrownMap : Call → RequestView → List File → Type 0
WritesGrownMap call asked files =
    call.status ≡ 0
    → (work : GrowWork call.rules asked files) × (m : Raster) × IsGrownMap asked work m
    × (call.after.out ≡ after_finish (after_bytes call.before.out (text_of_grown asked work m)))

-- growth comes to this block of the map where this is set: the blocks before it set it, from where nothing is set
pub record IsComeTo {rules : List Rule} {files : List File} (asked : RequestView) (work : GrowWork rules asked files)
    (block : Block) (canvas : Canvas) : Type 0 where
  pub among : Contains (blocks_of work.task.patterns.n (area_asked asked)) block
  pub before : IsSetBefore (area_asked asked) (terms_of_work asked work) block canvas

-- growth comes to the block, its lines of pins are those of what is set there and those of the file that lie in it, and what is
-- written of them is read as these lines, which mean pins that no map of it holds
pub record IsStuckBlock {rules : List Rule} {files : List File} (asked : RequestView) (work : GrowWork rules asked files)
    (stuck : StuckView) (read : List PinView) : Type 0 where
  pub canvas : Canvas
  pub come : IsComeTo asked work stuck.block canvas
  pub lines : stuck.pins ≡ lines_of_block (texts_of work.task.palette) work.task.lines canvas stuck.block
  pub read_back : pins_of (flat_map pin_text stuck.pins) ≡ Ok read
  pub pins : List Pin
  pub meant : picture_pins (texts_of work.task.palette) stuck.block.width stuck.block.height read ≡ Ok pins
  pub none : (m : Raster) → IsLegalPicture work.given.sample.picture (grow_rules asked) pins stuck.block.width
      stuck.block.height m → ⊥

-- a refutation of the problem that the lines which are read make of the block, with the block's shape: `check` accepts it for
-- these lines, if neither is too long
pub record IsStuckProof {rules : List Rule} {files : List File} (asked : RequestView) (work : GrowWork rules asked files)
    (stuck : StuckView) (read : List PinView) (proof : List ℕ) : Type 0 where
  pub P : Network
  pub problem : picture_problem work.task.patterns work.task.palette (output_of_block stuck.block) read ≡ Ok P
  pub refutes : IsProofText P (block_shape asked stuck.block) proof

-- the text of a stuck block and this refutation were written, and finished
abbrev pub WritesBehind : Call → StuckView → List ℕ → Type 0
WritesBehind call stuck proof =
    call.after.out ≡ after_finish (after_bytes call.before.out (stuck_text stuck ++ proof))

-- status 8 of `grow`: what was written is a block that is stuck, and behind its pins a refutation of this same block
abbrev pub WritesStuckBlock : Call → RequestView → List File → Type 0
WritesStuckBlock call asked files =
    call.status ≡ 8
    → (work : GrowWork call.rules asked files) × (stuck : StuckView) × (read : List PinView) × (proof : List ℕ)
    × IsStuckBlock asked work stuck read × IsStuckProof asked work stuck read proof × WritesBehind call stuck proof

-- the lines that the run of a stuck block tells were written behind its pins
pub record WritesStuckRun {rules : List Rule} {files : List File} (asked : RequestView) (work : GrowWork rules asked files)
    (stuck : StuckView) (before after : SinkView) : Type 0 where
  pub P : Network
  pub problem : IsProblemOfStuck work.task stuck P
  pub lines : List Line
  pub told : IsToldBy work.rule asked.budget P (stuck_start asked stuck) outcome.NoMap lines
  pub written : after ≡ after_finish (after_bytes before (stuck_run_text asked stuck P lines))

-- what was written is that of this end of growth, and the status is its own
abbrev pub WritesGrown : {rules : List Rule} {files : List File} (asked : RequestView) → GrowWork rules asked files → Call → Grown → Type 0
WritesGrown asked work call (grown.Map m) =
    (call.status ≡ 0) × (call.after.out ≡ after_finish (after_bytes call.before.out (text_of_grown asked work m)))
WritesGrown asked work call (grown.Stuck stuck) =
    (call.status ≡ 8) × WritesStuckRun asked work stuck call.before.out call.after.out
WritesGrown asked work call grown.Spent = (call.status ≡ 2) × (call.after.out ≡ call.before.out)

-- statuses 0, 2 and 8 of `grow`: its growth by the rule, the budget of each block and the seed asked for sets every block,
-- is spent, or is stuck at one, in this order, and what is written is what that gives
abbrev pub IsAsGrown : Call → RequestView → List File → Type 0
IsAsGrown call asked files =
    HasAnswer call.status
    → (work : GrowWork call.rules asked files) × (made : Grown) × GrowsTo asked work made × WritesGrown asked work call made

-- growth comes to the block, whose run is spent there, and the budget is below the volume of its problem
pub record IsSpentBlock {rules : List Rule} {files : List File} (asked : RequestView) (work : GrowWork rules asked files)
    (block : Block) : Type 0 where
  pub canvas : Canvas
  pub come : IsComeTo asked work block canvas
  pub ends : HasBlockOutcome (terms_of_work asked work) canvas block outcome.Spent
  pub below : asked.budget + 1 ≤ volume_of (problem_of_block (terms_of_work asked work) canvas block)

-- with status 2 of `grow` growth came to a block whose run was spent, and the budget is below the volume of its problem
abbrev pub IsSpentBelow : Call → RequestView → List File → Type 0
IsSpentBelow call asked files =
    call.status ≡ 2 → (work : GrowWork call.rules asked files) × (block : Block) × IsSpentBlock asked work block

-- the bytes are the text of all lines of the run of a stuck block
pub record IsWholeStuckRun {rules : List Rule} {files : List File} (asked : RequestView) (work : GrowWork rules asked files)
    (stuck : StuckView) (P : Network) (bytes : List ℕ) : Type 0 where
  pub lines : List Line
  pub told : IsToldBy work.rule asked.budget P (stuck_start asked stuck) outcome.NoMap lines
  pub is : bytes ≡ writing_text (block_writing asked stuck.block) P lines

-- the bytes are a front of the text of some of its first lines: they end in the head, or before the last
-- of these lines ends
pub record IsBrokenStuckRun {rules : List Rule} {files : List File} (asked : RequestView) (work : GrowWork rules asked files)
    (stuck : StuckView) (P : Network) (bytes : List ℕ) : Type 0 where
  pub lines : List Line
  pub begun : IsBegunBy work.rule asked.budget P (stuck_start asked stuck) lines
  pub count : ℕ
  pub within : count ≤ length lines
  pub end : ℕ
  pub broken : IsTextBrokenOff (block_writing asked stuck.block) P (take count lines) end
  pub is : bytes ≡ take end (writing_text (block_writing asked stuck.block) P (take count lines))

-- the bytes are the text, or a front of it, of the run of a stuck block, which growth makes by the work's rule, the budget
-- asked for and the block's seed; so they are a front of the text of a refutation or a journal of its problem
pub record IsFrontOfStuckRun {rules : List Rule} {files : List File} (asked : RequestView) (work : GrowWork rules asked files)
    (stuck : StuckView) (bytes : List ℕ) : Type 0 where
  pub P : Network
  pub problem : IsProblemOfStuck work.task stuck P
  pub as_run : IsWholeStuckRun asked work stuck P bytes ⊎ IsBrokenStuckRun asked work stuck P bytes
  pub front : IsFrontOfText P (block_shape asked stuck.block) bytes

-- the text of an end of growth: that of its map; or the block and its pins, alone or with a front of the text of the block's
-- own run behind them
abbrev pub IsTextOfGrown : {rules : List Rule} {files : List File} (asked : RequestView)
    → GrowWork rules asked files → Grown → List ℕ → Type 0
IsTextOfGrown asked work (grown.Map m) text = text ≡ text_of_grown asked work m
IsTextOfGrown asked work (grown.Stuck stuck) text =
    (text ≡ stuck_text stuck)
    ⊎ ((run : List ℕ) × IsFrontOfStuckRun asked work stuck run × (text ≡ stuck_text stuck ++ run))
IsTextOfGrown asked work grown.Spent text = ⊥

-- it is the text of the growth of this work
abbrev pub IsGrowText : List Rule → RequestView → List File → List ℕ → Type 0
IsGrowText rules asked files text =
    (work : GrowWork rules asked files) × (made : Grown) × GrowsTo asked work made × IsTextOfGrown asked work made text

-- what a call promises of a request for `grow`
pub record GrowPromise (call : Call) (asked : RequestView) (files : List File) : Type 0 where
  -- with status 0 a legal map of the whole size was written
  pub legal : WritesGrownMap call asked files
  -- with status 8 the block that is written admits no map with the pins that are written, and a refutation of this block
  -- stands behind them
  pub stuck : WritesStuckBlock call asked files
  -- the status and what is written are those of the defined growth
  pub as_grown : IsAsGrown call asked files
  -- a budget that was spent is that of a block's run, and below the volume of its problem
  pub spent : IsSpentBelow call asked files
  -- with status 5 nothing was written, or a front of the text of the growth
  pub front : CutsText (IsGrowText call.rules) call asked files

-- this, of each request over told files
abbrev pub GrowPromises : Call → Type 0
GrowPromises call = Promises commands.Grow GrowPromise call
