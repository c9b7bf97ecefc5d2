-- What a call of `grow` wrote of a stuck block, and where a budget was spent.
use Rattle.std.proofs.Common.{List, Ok, ap, arith, inl, inr, refl, subst, sym, ◌^◌, ◌∙◌, ◌≡◌, ◌≤◌}
use Rattle.std.proofs.lemmas.List.Elements.{All-contains, All-from_recursion}
use Rattle.std.specs.Prelude.{Contains}
use Rattle.wfc_blocks.proofs.CallerLemmas.{growth_spent, growth_stopped, spent_before, stopped_before}
use Rattle.wfc_blocks.proofs.WholeLemmas.{blocks_room}
use Rattle.wfc_blocks.specs.Blocks.{Area, blocks_of, output_of_block}
use Rattle.wfc_blocks.specs.Canvas.{Canvas, lines_of_block, pins_of_block}
use Rattle.wfc_blocks.specs.Grown.{shown_growth, stuck_in, terms_with}
use Rattle.wfc_blocks.specs.Growth.{Growth, IsGrowable, Terms, full, growth_of, problem_of_block, seed_of_block, spent, stopped}
use Rattle.wfc_blocks.specs.StuckView.{StuckView}
use Rattle.wfc_blocks.specs.declared.block.Block.{Block}
use Rattle.wfc_blocks.specs.declared.grown.Grown.{Grown}
use Rattle.wfc_blocks.specs.declared.grown.Grown.TheVariants as grown
use Rattle.wfc_choose.specs.Pick.{Rule}
use Rattle.wfc_grow_command.specs.GrowAnswer.{stuck_start}
use Rattle.wfc_grow_command.specs.GrowClaims.{GrowWork, GrowsTo, IsComeTo, IsSpentBelow, IsSpentBlock, WritesGrown, WritesStuckBlock, WritesStuckRun, grow_rules, terms_of_work}
use Rattle.wfc_grow_command.specs.GrowCommand.{grow_command}
use Rattle.wfc_grow_command.specs.GrowTask.{area_asked}
use Rattle.wfc_grow_command.specs.StuckText.{block_shape, block_writing}
use Rattle.wfc_grow_command.specs.WrittenPins.{numbered_from}
use Rattle.wfc_model.specs.Legal.{Pin}
use Rattle.wfc_outside.specs.Folder.{File}
use Rattle.wfc_overlap.proofs.CallerLemmas.{sample_problem}
use Rattle.wfc_overlap.specs.Bridge.{IsRoom}
use Rattle.wfc_overlap.specs.Built.{picture_pins, texts_of}
use Rattle.wfc_pattern.specs.Patterns.{PatternsView}
use Rattle.wfc_problem.specs.Network.{IsProblem, Network}
use Rattle.wfc_proof.specs.ProofText.{IsProofText}
use Rattle.wfc_proof.specs.declared.Line.{Line}
use Rattle.wfc_reply.proofs.CallerLemmas.{CameTo, run_is_proof, run_single, run_text, store_problem}
use Rattle.wfc_reply.specs.Asking.{IsCommand}
use Rattle.wfc_reply.specs.Call.{Call}
use Rattle.wfc_reply.specs.RunText.{IsToldBy, writing_text}
use Rattle.wfc_runs.specs.Words.{words_of_seed}
use Rattle.wfc_search.proofs.CallerLemmas.{outcome_spent}
use Rattle.wfc_search.specs.declared.Outcome.TheVariants as outcome
use Rattle.wfc_words.proofs.RangeLemmas.{asked-in_range}
use Rattle.wfc_words.specs.RequestView.{RequestView}
use Rattle.wfc_words.specs.declared.kinds.CommandKind.TheVariants as commands
use Rattle.wfc_grow_command.proofs.MeantBackLemmas.{lines_renumbered, lines_written, problem_renumbered, stuck_within}
use Rattle.wfc_grow_command.proofs.WrittenPinLemmas.{pins_back}
use Rattle.wfc_grow_command.proofs.GrowWorkLemmas.{IsKnown, is_as_grown, known, work_grown, work_promises}

-- ---- growth

-- the pins that growth went by are those of the work
grown_shown : {rules : List Rule} {files : List File} (asked : RequestView) (work : GrowWork rules asked files) (made : Grown) → IsKnown asked work → GrowsTo asked work made
    → shown_growth (texts_of work.task.palette) work.task.lines (area_asked asked) (growth_of (area_asked asked) (terms_of_work asked work)) ≡ made
grown_shown asked work made is grows =
    let by = work_grown asked work made is grows in
    let one : by.pins ≡ work.given.pins = cc (by.meant, work.given.meant) in
    ap (λ (ps : List Pin). shown_growth (texts_of work.task.palette) work.task.lines (area_asked asked) (growth_of (area_asked asked) (terms_with work.task.patterns work.rule asked.budget asked.seed ps))) (sym one) ∙ by.is

-- ---- stuck blocks

-- the text of the lines of its run is that of a refutation
pub stuck_proof : {rules : List Rule} {files : List File} (asked : RequestView) (work : GrowWork rules asked files) (stuck : StuckView) (P : Network) (lines : List Line) → IsToldBy work.rule asked.budget P (stuck_start asked stuck) outcome.NoMap lines
    → IsProofText P (block_shape asked stuck.block) (writing_text (block_writing asked stuck.block) P lines)
stuck_proof asked work stuck P lines told =
    let begin = stuck_start asked stuck in
    let problem : IsProblem P = store_problem P begin told.first told.opened in
    run_text (block_writing asked stuck.block) P outcome.NoMap lines problem (run_is_proof work.rule asked.budget P (words_of_seed (seed_of_block asked.seed stuck.block)) outcome.NoMap lines told)
    (run_single P work.rule asked.budget begin told.first outcome.NoMap lines told.tells)

-- what holds of a stuck block that was written
record IsWrittenStuck (call : Call) (asked : RequestView) (files : List File) : Type 0 where
  work : GrowWork call.rules asked files
  stuck : StuckView
  grows : GrowsTo asked work (grown.Stuck stuck)
  writes : WritesStuckRun asked work stuck call.before.out call.after.out

written_stuck : (call : Call) (asked : RequestView) (files : List File) → CameTo grow_command call asked files → call.status ≡ 8 → IsWrittenStuck call asked files
written_stuck call asked files came eight =
    let as_grown = is_as_grown call asked files came (inr eight) in by_made as_grown.0 as_grown.1 as_grown.2 as_grown.3
  where
    by_made : (work : GrowWork call.rules asked files) (made : Grown) → GrowsTo asked work made → WritesGrown asked work call made → IsWrittenStuck call asked files
    by_made work (grown.Map m) grows writes = absurd (omega (arith, writes.0, eight))
    by_made work (grown.Stuck stuck) grows writes = record { work = work; stuck = stuck; grows = grows; writes = writes.1 }
    by_made work grown.Spent grows writes = absurd (omega (arith, writes.0, eight))

-- growth came to it, and its lines are those of what was set there
record HasCome {rules : List Rule} {files : List File} (asked : RequestView) (work : GrowWork rules asked files) (stuck : StuckView) : Type 0 where
  canvas : Canvas
  come : IsComeTo asked work stuck.block canvas
  lines : stuck.pins ≡ lines_of_block (texts_of work.task.palette) work.task.lines canvas stuck.block

stuck_come : {rules : List Rule} {files : List File} (asked : RequestView) (work : GrowWork rules asked files) (stuck : StuckView) → IsKnown asked work → GrowsTo asked work (grown.Stuck stuck) → HasCome asked work stuck
stuck_come asked work stuck is grows = by_growth (growth_of area terms) refl (grown_shown asked work (grown.Stuck stuck) is grows)
  where
    area : Area
    area = area_asked asked

    terms : Terms
    terms = terms_of_work asked work

    -- of a block at which growth stopped
    HasComeTo : StuckView → Type 0
    HasComeTo stuck = HasCome asked work stuck

    by_growth : (g : Growth) → growth_of area terms ≡ g → shown_growth (texts_of work.task.palette) work.task.lines area g ≡ grown.Stuck stuck → HasCome asked work stuck
    by_growth (full canvas) ends shown = absurd (cc (shown))
    by_growth spent ends shown = absurd (cc (shown))
    by_growth (stopped block canvas) ends shown =
        let taught = is.lesson.patterns in
        let growable = (work_grown asked work (grown.Stuck stuck) is grows).growable in
        let own = stuck_in (texts_of work.task.palette) work.task.lines canvas block in
        let same : own ≡ stuck = cc (shown) in
        subst HasComeTo same (record {
          canvas = canvas;
          come = record { among = (growth_stopped area terms taught growable block canvas ends).among; before = stopped_before area terms taught growable block canvas ends };
          lines = refl;
        })

pub writes_stuck_block : (call : Call) (asked : RequestView) (files : List File) → IsCommand commands.Grow call asked files → CameTo grow_command call asked files → WritesStuckBlock call asked files
writes_stuck_block call asked files is came eight =
    let at = written_stuck call asked files came eight in
    let work = at.work in
    let stuck = at.stuck in
    let is_known = known call asked files is work in
    let block = (work_promises asked work (grown.Stuck stuck) is_known at.grows).1 in
    let come = stuck_come asked work stuck is_known at.grows in
    let within = stuck_within work.task.patterns (area_asked asked) stuck.block is_known.lesson.patterns (work_grown asked work (grown.Stuck stuck) is_known at.grows).growable come.come.among in
    let range = (asked-in_range call.words asked is.given.spelled).map in
    let wide : stuck.block.width ≤ 2 ^ 32 = omega (arith, within.across, range.width_limit) in
    let high : stuck.block.height ≤ 2 ^ 32 = omega (arith, within.down, range.height_limit) in
    let texts = texts_of work.task.palette in
    let meant : picture_pins texts stuck.block.width stuck.block.height stuck.pins ≡ Ok block.pins = block.meant is_known.named in
    let written = lines_written work.task.palette stuck.block.width stuck.block.height stuck.pins block.pins is_known.named.shown wide high meant in (
      work,
      stuck,
      numbered_from 1 stuck.pins,
      writing_text (block_writing asked stuck.block) at.writes.P at.writes.lines,
      record {
        canvas = come.canvas;
        come = come.come;
        lines = come.lines;
        read_back = pins_back 1 stuck.pins written;
        pins = block.pins;
        meant = lines_renumbered texts stuck.block.width stuck.block.height 1 stuck.pins block.pins meant;
        none = λ m legal. block.none work.given.sample.picture (grow_rules asked) m (is_known.windows stuck.block.width stuck.block.height) legal;
      },
      record {
        P = at.writes.P;
        problem = problem_renumbered work.task.patterns work.task.palette (output_of_block stuck.block) 1 stuck.pins block.pins meant ∙ at.writes.problem;
        refutes = stuck_proof asked work stuck at.writes.P at.writes.lines at.writes.told;
      },
      at.writes.written,
    )

-- ---- budgets

-- the blocks of an area that can be grown have room
room_among : (patterns : PatternsView) (area : Area) (block : Block) → IsGrowable patterns area → Contains (blocks_of patterns.n area) block → IsRoom patterns (output_of_block block)
room_among patterns area block growable among =
    All-contains (λ b. IsRoom patterns (output_of_block b)) (blocks_of patterns.n area) block
    (All-from_recursion (λ b. IsRoom patterns (output_of_block b)) (blocks_of patterns.n area) (blocks_room patterns area growable)) among

pub is_spent_below : (call : Call) (asked : RequestView) (files : List File) → IsCommand commands.Grow call asked files → CameTo grow_command call asked files → IsSpentBelow call asked files
is_spent_below call asked files is came two =
    let as_grown = is_as_grown call asked files came (inl (omega (arith, two))) in by_made as_grown.0 as_grown.1 as_grown.2 as_grown.3
  where
    Below : Type 0
    Below = (work : GrowWork call.rules asked files) × (block : Block) × IsSpentBlock asked work block

    by_growth : (work : GrowWork call.rules asked files) (g : Growth) → growth_of (area_asked asked) (terms_of_work asked work) ≡ g
        → shown_growth (texts_of work.task.palette) work.task.lines (area_asked asked) g ≡ grown.Spent → IsKnown asked work → IsGrowable work.task.patterns (area_asked asked) → Below
    by_growth work (full canvas) ends shown is_known growable = absurd (cc (shown))
    by_growth work (stopped block canvas) ends shown is_known growable = absurd (cc (shown))
    by_growth work spent ends shown is_known growable =
        let area = area_asked asked in
        let terms = terms_of_work asked work in
        let taught = is_known.lesson.patterns in
        let at = growth_spent area terms taught growable ends in
        let room = room_among work.task.patterns area at.block growable at.among in
        let problem = sample_problem work.task.patterns (output_of_block at.block) (pins_of_block work.given.pins at.last at.block) taught room in
        let below = (outcome_spent (problem_of_block terms at.last at.block) problem work.rule asked.budget (words_of_seed (seed_of_block asked.seed at.block)) at.state at.ends).1 in (
          work,
          at.block,
          record {
            canvas = at.last;
            come = record { among = at.among; before = spent_before area terms taught growable at };
            ends = (at.state, at.ends);
            below = omega (arith, below);
          },
        )

    by_made : (work : GrowWork call.rules asked files) (made : Grown) → GrowsTo asked work made → WritesGrown asked work call made → Below
    by_made work (grown.Map m) grows writes = absurd (omega (arith, writes.0, two))
    by_made work (grown.Stuck stuck) grows writes = absurd (omega (arith, writes.0, two))
    by_made work grown.Spent grows writes =
        let is_known = known call asked files is work in
        by_growth work (growth_of (area_asked asked) (terms_of_work asked work)) refl (grown_shown asked work grown.Spent is_known grows) is_known (work_grown asked work grown.Spent is_known grows).growable
