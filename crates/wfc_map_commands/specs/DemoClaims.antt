-- What `demo` promises, in the words of its subject.
use Rattle.std.specs.Prelude.{List, Some, [], false, length, ℕ, ◌+◌, ◌≡◌, ◌≤◌}
use Rattle.wfc_choose.specs.Pick.{Rule}
use Rattle.wfc_choose.specs.declared.RuleKind.TheVariants.{Fewest}
use Rattle.wfc_map_commands.specs.DemoAnswer.{demo_budget, demo_text}
use Rattle.wfc_map_commands.specs.Demonstration.{demo_output, demo_patterns, demo_picture, demo_problem, demo_side}
use Rattle.wfc_model.specs.Legal.{IsLegalPicture, Rules}
use Rattle.wfc_model.specs.Raster.{Raster}
use Rattle.wfc_outside.specs.Folder.{File}
use Rattle.wfc_outside.specs.Sink.{after_bytes, after_finish}
use Rattle.wfc_reply.specs.Asking.{Promises}
use Rattle.wfc_reply.specs.Call.{Call}
use Rattle.wfc_reply.specs.CutClaims.{CutsText}
use Rattle.wfc_reply.specs.Outcomes.{outcome_status}
use Rattle.wfc_reply.specs.Reply.{HasAnswer}
use Rattle.wfc_reply.specs.RunEnds.{end_of}
use Rattle.wfc_search.specs.Run.{State}
use Rattle.wfc_search.specs.Volume.{volume_of}
use Rattle.wfc_search.specs.declared.Outcome.{Outcome}
use Rattle.wfc_words.specs.RequestView.{RequestView}
use Rattle.wfc_words.specs.declared.kinds.CommandKind.TheVariants as commands

-- statuses 0, 1 and 2 of `demo`: its four numbers were written, and the status is that of its run
abbrev pub WritesDemo : Call → RequestView → List File → Type 0
WritesDemo call asked files =
    HasAnswer call.status
    → (end : Outcome × State) × (end_of call.rules Fewest (demo_problem asked.number) demo_budget asked.number ≡ Some end)
    × (call.status ≡ outcome_status end.0)
    × (call.after.out ≡ after_finish (after_bytes call.before.out
    (demo_text (length (demo_patterns asked.number).windows) (demo_problem asked.number).cells end.1.retractions call.status)))

-- how windows are taken and compared in each demonstration: three by three, as they stand, and nothing wraps
abbrev pub demo_rules : Rules
demo_rules = record { n = 3; symmetry = 1; wrap_in = false; wrap_out = false }

-- a picture of the size of a demonstration, each of whose windows its grid shows
abbrev pub IsLegalDemo : ℕ → Raster → Type 0
IsLegalDemo number m = IsLegalPicture (demo_picture number demo_side) demo_rules [] demo_output demo_output m

-- statuses 1 and 2 of `demo`: 1 never comes, since each demonstration has a map, and with 2 the budget is below the volume
-- of the problem
abbrev pub EndsDemo : Call → RequestView → List File → Type 0
EndsDemo call asked files =
    (call.status ≡ 1 → ⊥)
    × (call.status ≡ 2 → demo_budget + 1 ≤ volume_of (demo_problem asked.number))

-- the four numbers of a demonstration whose run has this end
abbrev pub demonstration : ℕ → Outcome × State → List ℕ
demonstration number end =
    demo_text (length (demo_patterns number).windows) (demo_problem number).cells end.1.retractions (outcome_status end.0)

-- the text is that of the demonstration asked for
abbrev pub IsDemonstration : List Rule → RequestView → List File → List ℕ → Type 0
IsDemonstration rules asked files text =
    (end : Outcome × State) × (end_of rules Fewest (demo_problem asked.number) demo_budget asked.number ≡ Some end)
    × (text ≡ demonstration asked.number end)

-- what a call promises of a request for `demo`
pub record DemoPromise (call : Call) (asked : RequestView) (files : List File) : Type 0 where
  pub written : WritesDemo call asked files
  pub ends : EndsDemo call asked files
  pub cut : CutsText (IsDemonstration call.rules) call asked files

-- this, of each request over told files
abbrev pub DemoPromises : Call → Type 0
DemoPromises call = Promises commands.Demo DemoPromise call
