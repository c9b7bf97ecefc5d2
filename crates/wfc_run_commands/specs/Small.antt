-- A small race, its runners and its answers, and a pins file with a line too many, for laws.
use Rattle.std.specs.Prelude.{Err, List, None, Some, [], length, true, ℕ, ◌∷◌, ◌≡◌}
use Rattle.wfc_choose.specs.Pick.{Rule}
use Rattle.wfc_choose.specs.declared.RuleKind.{RuleKind}
use Rattle.wfc_explain.specs.declared.explained.Kept.{Kept}
use Rattle.wfc_explain.specs.declared.explained.Mark.TheVariants.{Needed}
use Rattle.wfc_outside.specs.Folder.{File}
use Rattle.wfc_pins.specs.PinView.{PinView}
use Rattle.wfc_plan.specs.Kinds.{HasChoosers}
use Rattle.wfc_plan.specs.Plan.{outcome}
use Rattle.wfc_plan.specs.Refusing.{IsPlanRefused}
use Rattle.wfc_plan.specs.declared.fault.Fault.{Fault}
use Rattle.wfc_plan.specs.declared.fault.Refusal.TheVariants.{TooManyPins}
use Rattle.wfc_race.specs.Racers.{Racer, new_racer}
use Rattle.wfc_render.specs.declared.form.Form.TheVariants.{P6}
use Rattle.wfc_reply.specs.Reply.{Answered}
use Rattle.wfc_reply.specs.declared.reply.CommandVerdict.{CommandVerdict}
use Rattle.wfc_run_commands.specs.ExplainTask.{explain_plan}
use Rattle.wfc_run_commands.specs.declared.explaining.TheConstants.{EXPLAIN_CHOOSERS}
use Rattle.wfc_runs.specs.Words.{words_of_seed}
use Rattle.wfc_task.specs.Given.{HoldsPins}
use Rattle.wfc_task.specs.Small.{sample_asked, tiles_asked}
use Rattle.wfc_task.specs.TileGiven.{IsTileSetOf}
use Rattle.wfc_tileset.specs.Tiles.{TileSetView}
use Rattle.wfc_words.specs.RequestView.{RequestView}

-- a request for runs from the seed 7 on, each with a budget of 50
abbrev pub small_race : RequestView
small_race = record (sample_asked 2 P6) { seed = 7; budget = 50 }

-- the first two runners of it, of which the second made 12 retractions
abbrev pub small_racers : Rule → List Racer
small_racers rule =
    new_racer rule 50 (words_of_seed 7) ∷ record (new_racer rule 50 (words_of_seed 8)) { retractions = 12 } ∷ []

-- the answer with this verdict and this text
abbrev pub answer_with : CommandVerdict → List ℕ → Answered
answer_with verdict text = record { verdict = verdict; text = Some text; whole = true }

-- the answer with this verdict alone
abbrev pub answer_without : CommandVerdict → Answered
answer_without verdict = record { verdict = verdict; text = None; whole = true }

-- there are choosers enough to explain, and the pins file has one line more than may be left out
pub record HasLineTooMany (kinds : List RuleKind) (asked : RequestView) (files : List File) : Type 0 where
  pub choosers : HasChoosers EXPLAIN_CHOOSERS kinds asked.rule
  pub lines : List PinView
  pub held : HoldsPins files asked.pins lines
  pub many : length lines ≡ 65

-- a core of the second line alone, which is needed
abbrev pub second_needed : List Kept
second_needed = record { index = 1; mark = Needed } ∷ []

-- a race of two seeds
abbrev pub two_seeds_asked : RequestView
two_seeds_asked = record (sample_asked 2 P6) { seeds = 2 }

-- with choosers enough, `explain` has this fault over these files
abbrev pub HasExplainFault : RequestView → List File → Fault → Type 0
HasExplainFault asked files fault =
    (kinds : List RuleKind) → HasChoosers EXPLAIN_CHOOSERS kinds asked.rule → outcome (explain_plan kinds asked) files ≡ Err fault

-- over these files `explain` is refused for a line too many, where its choosers are enough
abbrev pub AreTooManyLines : RequestView → List File → Type 0
AreTooManyLines asked files =
    (kinds : List RuleKind) → HasLineTooMany kinds asked files → IsPlanRefused (explain_plan kinds asked) files (TooManyPins 65)

-- this holds over any files of a tile set
abbrev pub HoldsOfTiles : (List File → Type 0) → Type 0
HoldsOfTiles Holds = (files : List File) (set : TileSetView) → IsTileSetOf tiles_asked files set → Holds files
