-- What a call of `grow` answered, what is known of its work, and the map that it wrote.
use Rattle.std.proofs.Common.{List, None, Option, Some, ap, arith, false, inl, inr, refl, subst, ℕ, ◌∙◌, ◌≡◌, ◌≤◌, ◌⊎◌}
use Rattle.wfc_blocks.proofs.CallerLemmas.{IsGrownBy, grown_by, growth_promises}
use Rattle.wfc_blocks.specs.Promises.{IsNamedBy, ShowsLegalMap, ShowsStuckBlock}
use Rattle.wfc_blocks.specs.StuckView.{StuckView}
use Rattle.wfc_blocks.specs.declared.grown.Grown.{Grown}
use Rattle.wfc_blocks.specs.declared.grown.Grown.TheVariants as grown
use Rattle.wfc_choose.specs.Pick.{Rule}
use Rattle.wfc_grow_command.proofs.GrowAskedLemmas.{grow_asked}
use Rattle.wfc_grow_command.proofs.GrowGivenLemmas.{grow_given}
use Rattle.wfc_grow_command.specs.GrowAnswer.{AnswersGrown, GrowsBy, StuckCut, StuckFront, StuckWhole}
use Rattle.wfc_grow_command.specs.GrowClaims.{GrowWork, GrowsTo, IsAsGrown, IsGrownMap, WritesGrown, WritesGrownMap, grow_rules, text_of_grown}
use Rattle.wfc_grow_command.specs.GrowCommand.{grow_command}
use Rattle.wfc_grow_command.specs.GrowGiven.{IsGrowTask}
use Rattle.wfc_grow_command.specs.GrowTask.{area_asked}
use Rattle.wfc_model.specs.Raster.{Raster}
use Rattle.wfc_outside.specs.Folder.{File}
use Rattle.wfc_outside.specs.Sink.{after_bytes, after_finish}
use Rattle.wfc_overlap.specs.Bridge.{IsTaughtBy}
use Rattle.wfc_pattern.specs.Patterns.{PatternsView}
use Rattle.wfc_reply.proofs.CallerLemmas.{CameTo, HasAnswered, came_with, front_taken}
use Rattle.wfc_reply.specs.Asking.{IsCommand}
use Rattle.wfc_reply.specs.Call.{Call}
use Rattle.wfc_reply.specs.Choosers.{first_rule, kinds_of}
use Rattle.wfc_reply.specs.Reply.{Answered, TakesWhole, verdict_status}
use Rattle.wfc_task.proofs.CallerLemmas.{sample_by_request, sample_lesson, shown_palette}
use Rattle.wfc_task.proofs.LessonLemmas.{learned_is}
use Rattle.wfc_task.specs.Lesson.{IsLesson}
use Rattle.wfc_task.specs.Sources.{window_side_of}
use Rattle.wfc_words.proofs.RangeLemmas.{asked-in_range}
use Rattle.wfc_words.specs.RequestView.{RequestView}
use Rattle.wfc_words.specs.declared.kinds.CommandKind.TheVariants as commands

-- ---- what was answered

pub record HasGrown (rules : List Rule) (asked : RequestView) (files : List File) (answered : Answered) : Type 0 where
  pub work : GrowWork rules asked files
  pub made : Grown
  pub grows : GrowsTo asked work made
  pub answers : AnswersGrown work.rule asked work.task made answered

pub has_grown : (rules : List Rule) (asked : RequestView) (files : List File) (answered : Answered) → HasAnswered grow_command rules asked files answered → HasGrown rules asked files answered
has_grown rules asked files answered has = by_rule (first_rule asked.rule rules) refl has.answers
  where
    given : IsGrowTask (kinds_of rules) asked files has.task
    given = grow_given (kinds_of rules) asked files has.task has.is

    by_rule : (found : Option Rule) → first_rule asked.rule rules ≡ found → GrowsBy found asked has.task answered → HasGrown rules asked files answered
    by_rule None is answers = absurd answers
    by_rule (Some rule) is answers = record { work = record { task = has.task; given = given; rule = rule; first = is }; made = answers.0; grows = answers.1; answers = answers.2 }

-- ---- what is known of the work of a call

pub record IsKnown {rules : List Rule} {files : List File} (asked : RequestView) (work : GrowWork rules asked files) : Type 0 where
  pub lesson : IsLesson (record { kind = work.given.kind; palette = work.task.palette; patterns = work.task.patterns })
  pub named : IsNamedBy work.task.palette work.task.patterns
  pub long : work.task.patterns.n ≤ asked.block
  pub side : work.task.patterns.n ≡ window_side_of asked.source
  pub windows : (width height : ℕ) → IsTaughtBy work.given.sample.picture (grow_rules asked) work.task.patterns (record { width = width; height = height; wrap = false })

pub known : (call : Call) (asked : RequestView) (files : List File) → IsCommand commands.Grow call asked files → (work : GrowWork call.rules asked files) → IsKnown asked work
known call asked files is work =
    let asks = grow_asked asked (asked-in_range call.words asked is.given.spelled) is.command_is in
    let sample = work.given.sample in
    let lesson = sample_lesson asked files work.given.kind work.task.patterns work.task.palette asks.sample sample in
    let by = sample_by_request asked files work.given.kind work.task.patterns work.task.palette sample in
    let learned = learned_is sample.picture (window_side_of asked.source) asked.symmetry asked.wrap_in work.task.patterns sample.learned in
    record {
      lesson = lesson;
      named = record { shown = shown_palette work.given.kind work.task.palette lesson.shown; apart = by.apart; some_symbol = lesson.shown.some_symbol; below = lesson.numbers };
      long = omega (arith, by.side, asks.some_block);
      side = by.side;
      windows = λ width height. record { same_side = by.side; same_wrap = refl; windows = ap (λ (p : PatternsView). p.windows) learned.2 };
    }

-- the growth of the work that it is
pub work_grown : {rules : List Rule} {files : List File} (asked : RequestView) (work : GrowWork rules asked files) (made : Grown) → IsKnown asked work → GrowsTo asked work made
    → IsGrownBy work.task.patterns work.task.palette (area_asked asked) work.task.lines work.rule asked.budget asked.seed made
work_grown asked work made is grows = grown_by work.task.patterns work.task.palette (area_asked asked) work.task.lines work.rule asked.budget asked.seed made is.long grows

pub work_promises : {rules : List Rule} {files : List File} (asked : RequestView) (work : GrowWork rules asked files) (made : Grown) → IsKnown asked work → GrowsTo asked work made
    → ShowsLegalMap work.task.patterns work.task.palette (area_asked asked) work.task.lines made × ShowsStuckBlock work.task.patterns work.task.palette (area_asked asked) made
work_promises asked work made is grows =
    growth_promises work.task.patterns work.task.palette (area_asked asked) work.task.lines work.rule asked.budget asked.seed made is.lesson.patterns (work_grown asked work made is grows)

-- ---- the statuses of an answer

pub is_as_grown : (call : Call) (asked : RequestView) (files : List File) → CameTo grow_command call asked files → IsAsGrown call asked files
is_as_grown call asked files came answer =
    let with = came_with grow_command call asked files came answer in
    let has = has_grown call.rules asked files with.answered with.has in
    (has.work, has.made, has.grows, by_made with.answered has.work has.made has.answers with.same_status with.taken)
  where
    by_stuck : (answered : Answered) (work : GrowWork call.rules asked files) (stuck : StuckView) → StuckWhole work.rule asked work.task stuck answered ⊎ (StuckFront work.rule asked work.task stuck answered ⊎ StuckCut stuck answered)
        → call.status ≡ verdict_status answered.verdict → TakesWhole answered.whole answered.text call.before.out call.after.out → WritesGrown asked work call (grown.Stuck stuck)
    by_stuck answered work stuck (inl whole) same takes = (
      same ∙ ap (λ (a : Answered). verdict_status a.verdict) whole.is,
      record {
        P = whole.P;
        problem = whole.problem;
        lines = whole.lines;
        told = whole.told;
        written = subst (λ (a : Answered). TakesWhole a.whole a.text call.before.out call.after.out) whole.is takes;
      },
    )
    by_stuck answered work stuck (inr (inl front)) same takes = absurd (front_taken answered.whole answered.text call.before.out call.after.out front.front takes)
    by_stuck answered work stuck (inr (inr front)) same takes = absurd (front_taken answered.whole answered.text call.before.out call.after.out front.front takes)

    by_made : (answered : Answered) (work : GrowWork call.rules asked files) (made : Grown) → AnswersGrown work.rule asked work.task made answered → call.status ≡ verdict_status answered.verdict
        → TakesWhole answered.whole answered.text call.before.out call.after.out → WritesGrown asked work call made
    by_made answered work (grown.Map m) answers same takes =
        (same ∙ ap (λ (a : Answered). verdict_status a.verdict) answers, subst (λ (a : Answered). TakesWhole a.whole a.text call.before.out call.after.out) answers takes)
    by_made answered work (grown.Stuck stuck) answers same takes = by_stuck answered work stuck answers same takes
    by_made answered work grown.Spent answers same takes =
        (same ∙ ap (λ (a : Answered). verdict_status a.verdict) answers, subst (λ (a : Answered). TakesWhole a.whole a.text call.before.out call.after.out) answers takes)

pub writes_grown_map : (call : Call) (asked : RequestView) (files : List File) → IsCommand commands.Grow call asked files → CameTo grow_command call asked files → WritesGrownMap call asked files
writes_grown_map call asked files is came nought =
    let as_grown = is_as_grown call asked files came (inl (omega (arith, nought))) in by_made as_grown.0 as_grown.1 as_grown.2 as_grown.3
  where
    by_made : (work : GrowWork call.rules asked files) (made : Grown) → GrowsTo asked work made → WritesGrown asked work call made
        → (work : GrowWork call.rules asked files) × (m : Raster) × IsGrownMap asked work m × (call.after.out ≡ after_finish (after_bytes call.before.out (text_of_grown asked work m)))
    by_made work (grown.Map m) grows writes =
        let is_known = known call asked files is work in
        let legal = (work_promises asked work (grown.Map m) is_known grows).0 in
        (work, m, legal work.given.sample.picture (grow_rules asked) work.given.pins (is_known.windows asked.width asked.height) work.given.meant, writes.1)
    by_made work (grown.Stuck stuck) grows writes = absurd (omega (arith, writes.0, nought))
    by_made work grown.Spent grows writes = absurd (omega (arith, writes.0, nought))
