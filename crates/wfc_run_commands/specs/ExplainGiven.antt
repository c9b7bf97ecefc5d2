-- The task of `explain` over files that are told, in the subject's words.
use Rattle.std.specs.Prelude.{List, length, ◌≡◌, ◌≤◌}
use Rattle.wfc_choose.specs.declared.RuleKind.{RuleKind}
use Rattle.wfc_explain.specs.Pinned.{PinnedView}
use Rattle.wfc_explain.specs.Problems.{pinned_sample, pinned_tiles}
use Rattle.wfc_outside.specs.Folder.{File}
use Rattle.wfc_pins.specs.PinView.{PinView}
use Rattle.wfc_plan.specs.Kinds.{HasChoosers}
use Rattle.wfc_problem.specs.Network.{Network}
use Rattle.wfc_run_commands.specs.ExplainTask.{ExplainTask, explain, line_numbers}
use Rattle.wfc_run_commands.specs.declared.explaining.TheConstants.{EXPLAIN_CHOOSERS, MAX_LINES}
use Rattle.wfc_runs.specs.Alike.{IsPlain}
use Rattle.wfc_task.specs.Maps.{asked_output}
use Rattle.wfc_task.specs.Posed.{Posed, PosedBy}
use Rattle.wfc_words.specs.RequestView.{RequestView}
use Rattle.wfc_words.specs.declared.kinds.SourceModel.{SourceModel}
use Rattle.wfc_words.specs.declared.kinds.SourceModel.TheVariants.{Overlap, Tiles}

-- the lines of the pins file
abbrev pub pin_lines_by : (source : SourceModel) (asked : RequestView) (files : List File) (P : Network)
    → PosedBy source asked files P → List PinView
pin_lines_by (Overlap n) asked files P of = of.problem.lines
pin_lines_by Tiles asked files P of = of.problem.lines

-- the problem of the request, whose lines can be left out
abbrev pub pinned_by : (source : SourceModel) (asked : RequestView) (files : List File) (P : Network)
    → PosedBy source asked files P → PinnedView
pinned_by (Overlap n) asked files P of =
    pinned_sample (record { patterns = of.patterns; output = asked_output asked; pins = of.problem.pins })
pinned_by Tiles asked files P of =
    pinned_tiles (record { tiles = of.set; mask = of.mask; wrap = asked.wrap_out; pins = of.problem.pins })

-- what a request has to say, so that lines can be left out: a rule that doesn't go by ranks
pub record IsExplainAsked (asked : RequestView) : Type 0 where
  pub plain : IsPlain asked.rule

-- a chooser goes by the rule for each line that `explain` may take and one more, the problem is that of the request, and its
-- lines aren't too many
pub record IsExplainTask (kinds : List RuleKind) (asked : RequestView) (files : List File) (task : ExplainTask) : Type 0 where
  pub choosers : HasChoosers EXPLAIN_CHOOSERS kinds asked.rule
  pub P : Network
  pub posed : Posed asked files P
  pub few : length (pin_lines_by asked.source asked files P posed) ≤ MAX_LINES
  pub is : task ≡ explain (pinned_by asked.source asked files P posed)
      (line_numbers (pin_lines_by asked.source asked files P posed))
