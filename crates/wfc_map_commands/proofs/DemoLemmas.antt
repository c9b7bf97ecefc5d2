-- What the end of a demonstration means.
use Rattle.std.proofs.Common.{List, Some, [], ap, arith, false, inl, length, refl, subst, sym, ℕ, ◌*◌, ◌+◌, ◌∙◌, ◌≡◌, ◌≤◌}
use Rattle.std.proofs.lemmas.Nat.{mul-le}
use Rattle.wfc_choose.specs.declared.RuleKind.TheVariants.{Fewest}
use Rattle.wfc_map_commands.proofs.DemoLegalLemmas.{lines_legal}
use Rattle.wfc_map_commands.proofs.DemoPromiseLemmas.{demo_cut, writes_demo}
use Rattle.wfc_map_commands.proofs.DemonstrationLemmas.{demo_are_patterns, demo_few, demo_problem_is}
use Rattle.wfc_map_commands.specs.DemoAnswer.{demo_budget}
use Rattle.wfc_map_commands.specs.DemoClaims.{DemoPromise, EndsDemo, IsLegalDemo, demo_rules}
use Rattle.wfc_map_commands.specs.DemoCommand.{demo_command}
use Rattle.wfc_map_commands.specs.Demonstration.{demo_output, demo_patterns, demo_picture, demo_problem, demo_side}
use Rattle.wfc_model.proofs.CallerLemmas.{length-places}
use Rattle.wfc_model.specs.Raster.{Raster}
use Rattle.wfc_model.specs.Window.{places, starts}
use Rattle.wfc_outside.specs.Folder.{File}
use Rattle.wfc_overlap.proofs.CallerLemmas.{sample_problem, there}
use Rattle.wfc_overlap.specs.Bridge.{IsRoom, IsTaughtBy, numbers_of_windows, window_pair_count}
use Rattle.wfc_overlap.specs.Sample.{Output, output_with}
use Rattle.wfc_problem.specs.Assignment.{IsLegalAssignment}
use Rattle.wfc_problem.specs.Network.{IsProblem}
use Rattle.wfc_reply.proofs.CallerLemmas.{CameTo, ran_by}
use Rattle.wfc_reply.specs.Asking.{IsCommand}
use Rattle.wfc_reply.specs.Call.{Call}
use Rattle.wfc_reply.specs.Outcomes.{outcome_status}
use Rattle.wfc_reply.specs.RunEnds.{end_of}
use Rattle.wfc_runs.specs.Words.{words_of_seed}
use Rattle.wfc_search.proofs.CallerLemmas.{outcome_none, outcome_spent}
use Rattle.wfc_search.specs.Run.{State}
use Rattle.wfc_search.specs.Volume.{volume_of}
use Rattle.wfc_search.specs.declared.Outcome.{Outcome}
use Rattle.wfc_search.specs.declared.Outcome.TheVariants as outcome
use Rattle.wfc_words.specs.RequestView.{RequestView}
use Rattle.wfc_words.specs.declared.kinds.CommandKind.TheVariants as commands

-- the map of a demonstration
abbrev square : Output
square = output_with demo_output demo_output false

-- its patterns are those that its grid teaches
taught_by : (n : ℕ) → IsTaughtBy (demo_picture n demo_side) demo_rules (demo_patterns n) square
unfolding demo_patterns
taught_by n = record { same_side = refl; same_wrap = refl; windows = refl }

few_windows : (n : ℕ) → length (demo_patterns n).windows ≤ 484
unfolding demo_patterns
few_windows n = demo_few n demo_side (omega arith) (omega arith)

-- the map has room for its windows
room : (n : ℕ) → IsRoom (demo_patterns n) square
room n =
    let side : (demo_patterns n).n ≡ 3 = (taught_by n).same_side in
    let all : length (places demo_output demo_output (demo_patterns n).n false) ≡ 46 * 46
    = length-places demo_output demo_output (demo_patterns n).n false ∙ ap (λ k. starts demo_output k false * starts demo_output k false) side in
    record {
      wide = omega (arith, side);
      high = omega (arith, side);
      few_pairs =
          let few : window_pair_count (demo_patterns n) square ≤ 2116 * 484
          = subst (λ m. m * length (demo_patterns n).windows ≤ 2116 * 484) (sym all) (mul-le 2116 (length (demo_patterns n).windows) 2116 484 (omega arith) (few_windows n)) in
          omega (arith, few);
    }

-- so its problem is one
is_problem : (n : ℕ) → IsProblem (demo_problem n)
is_problem n = subst IsProblem (sym (demo_problem_is n)) (sample_problem (demo_patterns n) square [] (demo_are_patterns n) (room n))

pub ends_demo : (call : Call) (asked : RequestView) (files : List File) → IsCommand commands.Demo call asked files → CameTo demo_command call asked files → EndsDemo call asked files
ends_demo call asked files is came = (
  (λ one. let run = writes_demo call asked files is came (inl (omega (arith, one))) in no_map run.0.0 run.0.1 run.1 run.2 one (demo_picture asked.number 48) (lines_legal asked.number 24 48 (omega arith) (omega arith))),
  (λ two. let run = writes_demo call asked files is came (inl (omega (arith, two))) in spent run.0.0 run.0.1 run.1 run.2 two),
)
  where
    Ended : Outcome → State → Type 0
    Ended o s = end_of call.rules Fewest (demo_problem asked.number) demo_budget asked.number ≡ Some (o, s)

    no_map : (o : Outcome) (s : State) → Ended o s → call.status ≡ outcome_status o → call.status ≡ 1 → (m : Raster) → IsLegalDemo asked.number m → ⊥
    no_map outcome.NoMap s ends same one m legal =
        let ran = ran_by call.rules Fewest (demo_problem asked.number) demo_budget asked.number (outcome.NoMap, s) ends in
        let numbers = numbers_of_windows (demo_patterns asked.number) square m in
        outcome_none (demo_problem asked.number) (is_problem asked.number) ran.0 demo_budget (words_of_seed asked.number) s ran.1 numbers
        (subst (λ P. IsLegalAssignment P numbers) (sym (demo_problem_is asked.number))
        (there (demo_picture asked.number demo_side) demo_rules (demo_patterns asked.number) square [] m (demo_are_patterns asked.number) (taught_by asked.number) legal))
    no_map outcome.Map s ends same one m legal = absurd (omega (arith, same, one))
    no_map outcome.Spent s ends same one m legal = absurd (omega (arith, same, one))

    spent : (o : Outcome) (s : State) → Ended o s → call.status ≡ outcome_status o → call.status ≡ 2 → demo_budget + 1 ≤ volume_of (demo_problem asked.number)
    spent outcome.Spent s ends same two =
        let ran = ran_by call.rules Fewest (demo_problem asked.number) demo_budget asked.number (outcome.Spent, s) ends in
        let below = (outcome_spent (demo_problem asked.number) (is_problem asked.number) ran.0 demo_budget (words_of_seed asked.number) s ran.1).1 in
        omega (arith, below)
    spent outcome.Map s ends same two = absurd (omega (arith, same, two))
    spent outcome.NoMap s ends same two = absurd (omega (arith, same, two))

-- all that `demo` promises
pub demo_promise : (call : Call) (asked : RequestView) (files : List File) → IsCommand commands.Demo call asked files → CameTo demo_command call asked files → DemoPromise call asked files
demo_promise call asked files is came = record {
  written = writes_demo call asked files is came;
  ends = ends_demo call asked files is came;
  cut = demo_cut call asked files is came;
}
