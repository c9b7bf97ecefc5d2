-- What `grow` comes to over told files, in the subject's words.
use Rattle.std.proofs.Common.{Bool, Err, List, Ok, Result, ap, false, if◌then◌else◌, nat_lt, refl, subst, sym, true, ℕ, ◌||◌, ◌∙◌, ◌≡◌}
use Rattle.std.proofs.lemmas.Bool.{le-ltb, ltb-false, or_parts}
use Rattle.wfc_blocks.specs.Blocks.{Area, block_at, block_count, output_of_block}
use Rattle.wfc_blocks.specs.Grown.{growable_of, or_grow_fault}
use Rattle.wfc_blocks.specs.declared.TheConstants.{MAX_BLOCKS}
use Rattle.wfc_blocks.specs.declared.grown.GrowFault.{GrowFault}
use Rattle.wfc_blocks.specs.declared.grown.GrowFault.TheVariants as faults
use Rattle.wfc_choose.specs.declared.RuleKind.{RuleKind}
use Rattle.wfc_grow_command.specs.GrowGiven.{IsGrowTask, IsGrowableArea}
use Rattle.wfc_grow_command.specs.GrowTask.{GrowTask, area_asked, grow_plan, grow_refusal, growable, grown_plan, read_plan, task_with}
use Rattle.wfc_grow_command.specs.declared.growing.TheConstants.{GROW_CHOOSERS}
use Rattle.wfc_model.specs.Legal.{Pin}
use Rattle.wfc_outside.specs.Folder.{File}
use Rattle.wfc_overlap.specs.Bridge.{window_pair_count}
use Rattle.wfc_overlap.specs.Built.{picture_pins, texts_of}
use Rattle.wfc_pattern.specs.Patterns.{PatternsView}
use Rattle.wfc_picture.specs.declared.symbol.Symbol.{Symbol}
use Rattle.wfc_pins.specs.PinView.{PinView}
use Rattle.wfc_pins.specs.declared.fault.BuildFault.{BuildFault}
use Rattle.wfc_plan.proofs.CallerLemmas.{choosers_given, done_is, given_choosers, ok_refused, ok_step, outcome_on, outcome_parts, step_ok, unrefused}
use Rattle.wfc_plan.specs.Kinds.{enough}
use Rattle.wfc_plan.specs.Plan.{Plan, and_then, done, outcome, step}
use Rattle.wfc_plan.specs.declared.fault.Refusal.TheVariants as refusals
use Rattle.wfc_problem.specs.declared.TheConstants.{MAX_PAIRS}
use Rattle.wfc_render.specs.Layout.{layout_of}
use Rattle.wfc_render.specs.declared.form.Layout.{Layout}
use Rattle.wfc_task.proofs.CallerLemmas.{given_sample, sample_given}
use Rattle.wfc_task.proofs.GivenLemmas.{given_pins, pins_given}
use Rattle.wfc_task.specs.SamplePlans.{pins_plan, sample_plan}
use Rattle.wfc_task.specs.Steps.{sample_layout}
use Rattle.wfc_task.specs.declared.lesson.Taught.{Taught}
use Rattle.wfc_words.specs.RequestView.{RequestView}

-- ---- what follows each step

abbrev pub behind_lines : Taught → Layout → List PinView → Plan GrowTask
behind_lines lesson layout lines = done (task_with lesson layout lines)

abbrev pub behind_layout : RequestView → Taught → Layout → Plan GrowTask
behind_layout asked lesson layout = and_then (pins_plan asked.pins) (behind_lines lesson layout)

abbrev pub behind_lesson : RequestView → Taught → Plan GrowTask
behind_lesson asked lesson = and_then (step (sample_layout lesson.kind asked)) (behind_layout asked lesson)

abbrev pub behind_enough : RequestView → Plan GrowTask
behind_enough asked = and_then (sample_plan asked) (behind_lesson asked)

abbrev pub behind_growable : GrowTask → List Pin → Plan GrowTask
behind_growable task pins = done task

-- ---- what was read

-- what a task was made of
pub record IsReadFor (kinds : List RuleKind) (asked : RequestView) (files : List File) (task : GrowTask) : Type 0 where
  pub chosen : enough GROW_CHOOSERS kinds asked.rule ≡ Ok tt
  pub lesson : Taught
  pub layout : Layout
  pub lines : List PinView
  pub taught : outcome (sample_plan asked) files ≡ Ok lesson
  pub written : sample_layout lesson.kind asked ≡ Ok layout
  pub held : outcome (pins_plan asked.pins) files ≡ Ok lines
  pub is : task_with lesson layout lines ≡ task

pub read_for : (kinds : List RuleKind) (asked : RequestView) (files : List File) (task : GrowTask) → outcome (read_plan kinds asked) files ≡ Ok task → IsReadFor kinds asked files task
read_for kinds asked files task is =
    let chosen = outcome_parts (step (enough GROW_CHOOSERS kinds asked.rule)) (λ _. behind_enough asked) files task is in
    let known = outcome_parts (sample_plan asked) (behind_lesson asked) files task chosen.2 in
    let lesson = known.0 in
    let written = outcome_parts (step (sample_layout lesson.kind asked)) (behind_layout asked lesson) files task known.2 in
    let held = outcome_parts (pins_plan asked.pins) (behind_lines lesson written.0) files task written.2 in
    record {
      chosen = given_choosers GROW_CHOOSERS kinds asked.rule (choosers_given GROW_CHOOSERS kinds asked.rule chosen.0 (step_ok (enough GROW_CHOOSERS kinds asked.rule) files chosen.0 chosen.1));
      lesson = lesson;
      layout = written.0;
      lines = held.0;
      taught = known.1;
      written = step_ok (sample_layout lesson.kind asked) files written.0 written.1;
      held = held.1;
      is = done_is (task_with lesson written.0 held.0) task files held.2;
    }

-- ---- what can be grown

-- what holds where a map can be grown by these pins
pub record CanGrow (patterns : PatternsView) (palette : List Symbol) (area : Area) (lines : List PinView) (pins : List Pin) : Type 0 where
  pub area_fits : IsGrowableArea patterns area
  pub meant : picture_pins (texts_of palette) area.width area.height lines ≡ Ok pins

module _ (patterns : PatternsView) (palette : List Symbol) (area : Area) (lines : List PinView) where
  abbrev blocks : ℕ
  blocks = block_count patterns.n area

  abbrev product : ℕ
  product = window_pair_count patterns (output_of_block (block_at patterns.n area 0))

  pub can_grow : (pins : List Pin) → growable_of patterns palette area lines ≡ Ok pins → CanGrow patterns palette area lines pins
  can_grow pins is =
      by_case (nat_lt area.width patterns.n || nat_lt area.height patterns.n) (nat_lt MAX_BLOCKS blocks) (nat_lt MAX_PAIRS product) (picture_pins (texts_of palette) area.width area.height lines) refl refl refl refl is
    where
      by_case : (small many large : Bool) (meant : Result (List Pin) BuildFault) → (nat_lt area.width patterns.n || nat_lt area.height patterns.n) ≡ small → nat_lt MAX_BLOCKS blocks ≡ many → nat_lt MAX_PAIRS product ≡ large
          → picture_pins (texts_of palette) area.width area.height lines ≡ meant
          → (if small then Err faults.SizeBelowN else (if many then Err (faults.TooManyBlocks blocks) else (if large then Err (faults.TooLarge product) else or_grow_fault meant))) ≡ Ok pins → CanGrow patterns palette area lines pins
      by_case true many large meant s m l p e = absurd (cc (e))
      by_case false true large meant s m l p e = absurd (cc (e))
      by_case false false true meant s m l p e = absurd (cc (e))
      by_case false false false (Err why) s m l p e = absurd (cc (e))
      by_case false false false (Ok found) s m l p e =
          let same : found ≡ pins = cc (e) in
          let sides = or_parts (nat_lt area.width patterns.n) (nat_lt area.height patterns.n) s in
          record {
            area_fits = record {
              wide = ltb-false area.width patterns.n sides.0;
              high = ltb-false area.height patterns.n sides.1;
              few = ltb-false MAX_BLOCKS blocks m;
              few_pairs = ltb-false MAX_PAIRS product l;
            };
            meant = p ∙ ap (λ (ps : List Pin). let end : Result (List Pin) BuildFault = Ok ps in end) same;
          }

  pub grows : (pins : List Pin) → CanGrow patterns palette area lines pins → growable_of patterns palette area lines ≡ Ok pins
  grows pins can =
      let fits = can.area_fits in
      let large = nat_lt MAX_PAIRS product in
      let many = nat_lt MAX_BLOCKS blocks in
      let meant = picture_pins (texts_of palette) area.width area.height lines in
      let narrow : nat_lt area.width patterns.n ≡ false = le-ltb area.width patterns.n fits.wide in
      let low : nat_lt area.height patterns.n ≡ false = le-ltb area.height patterns.n fits.high in
      let few : many ≡ false = le-ltb MAX_BLOCKS blocks fits.few in
      let pairs_fit : large ≡ false = le-ltb MAX_PAIRS product fits.few_pairs in
      let or_low : Bool → Result (List Pin) GrowFault = λ b.
      if b || nat_lt area.height patterns.n then Err faults.SizeBelowN else (if many then Err (faults.TooManyBlocks blocks) else (if large then Err (faults.TooLarge product) else or_grow_fault meant)) in
      let then_low : Bool → Result (List Pin) GrowFault = λ b.
      if b then Err faults.SizeBelowN else (if many then Err (faults.TooManyBlocks blocks) else (if large then Err (faults.TooLarge product) else or_grow_fault meant)) in
      let then_many : Bool → Result (List Pin) GrowFault = λ b. if b then Err (faults.TooManyBlocks blocks) else (if large then Err (faults.TooLarge product) else or_grow_fault meant) in
      let then_large : Bool → Result (List Pin) GrowFault = λ b. if b then Err (faults.TooLarge product) else or_grow_fault meant in
      ap or_low narrow ∙ ap then_low low ∙ ap then_many few ∙ ap then_large pairs_fit ∙ ap or_grow_fault can.meant

-- ---- tasks

pub grow_given : (kinds : List RuleKind) (asked : RequestView) (files : List File) (task : GrowTask) → outcome (grow_plan kinds asked) files ≡ Ok task → IsGrowTask kinds asked files task
grow_given kinds asked files task is =
    let read = outcome_parts (read_plan kinds asked) (grown_plan asked) files task is in
    let known = read.0 in
    let pinned = outcome_parts (step (growable asked known)) (behind_growable known) files task read.2 in
    let same : known ≡ task = done_is known task files pinned.2 in
    let growing = read_for kinds asked files known read.1 in
    let can = can_grow known.patterns known.palette (area_asked asked) known.lines pinned.0
    (unrefused grow_refusal (growable_of known.patterns known.palette (area_asked asked) known.lines) pinned.0 (step_ok (growable asked known) files pinned.0 pinned.1)) in
    let made : GrowTask = task_with growing.lesson growing.layout growing.lines in
    subst (IsGrowTask kinds asked files) (growing.is ∙ same) (record {
      choosers = choosers_given GROW_CHOOSERS kinds asked.rule tt growing.chosen;
      kind = growing.lesson.kind;
      sample = sample_given asked files growing.lesson growing.taught;
      written = unrefused refusals.Render (layout_of growing.lesson.kind asked.form asked.width asked.height 1) growing.layout growing.written;
      held = pins_given asked.pins files growing.lines growing.held;
      area = subst (λ (t : GrowTask). IsGrowableArea t.patterns (area_asked asked)) (sym growing.is) can.area_fits;
      pins = pinned.0;
      meant = subst (λ (t : GrowTask). let end : Result (List Pin) BuildFault = Ok pinned.0 in picture_pins (texts_of t.palette) asked.width asked.height t.lines ≡ end) (sym growing.is) can.meant;
    })

pub given_grow : (kinds : List RuleKind) (asked : RequestView) (files : List File) (task : GrowTask) → IsGrowTask kinds asked files task → outcome (grow_plan kinds asked) files ≡ Ok task
given_grow kinds asked files task given =
    let lesson : Taught = record { kind = given.kind; palette = task.palette; patterns = task.patterns } in
    let can : CanGrow task.patterns task.palette (area_asked asked) task.lines given.pins = record { area_fits = given.area; meant = given.meant } in
    outcome_on (read_plan kinds asked) (grown_plan asked) files task
    (outcome_on (step (enough GROW_CHOOSERS kinds asked.rule)) (λ _. behind_enough asked) files tt (ok_step (enough GROW_CHOOSERS kinds asked.rule) files tt (given_choosers GROW_CHOOSERS kinds asked.rule given.choosers))
    ∙ outcome_on (sample_plan asked) (behind_lesson asked) files lesson (given_sample asked files given.kind task.patterns task.palette given.sample)
    ∙ outcome_on (step (sample_layout given.kind asked)) (behind_layout asked lesson) files task.layout
    (ok_step (sample_layout given.kind asked) files task.layout (ok_refused refusals.Render (layout_of given.kind asked.form asked.width asked.height 1) task.layout given.written))
    ∙ outcome_on (pins_plan asked.pins) (behind_lines lesson task.layout) files task.lines (given_pins asked.pins files task.lines given.held))
    ∙ outcome_on (step (growable asked task)) (behind_growable task) files given.pins
    (ok_step (growable asked task) files given.pins
    (ok_refused grow_refusal (growable_of task.patterns task.palette (area_asked asked) task.lines) given.pins (grows task.patterns task.palette (area_asked asked) task.lines given.pins can)))
