-- The lines before this one were looked at, with the rule of the choosers, and a chooser is left for each that follows.
use Rattle.std.proofs.Common.{◌≡◌, ◌+◌, map, vec_len, length}
use Rattle.wfc_choose.specs.Pick.{Rule}
use Rattle.wfc_runs.specs.Alike.{HaveRule}
use Rattle.wfc_runs.specs.Words.{words_of_seed}
use Rattle.wfc_explain.specs.Outcomes.{outcome_with}
use Rattle.wfc_explain.specs.Trials.{trial_after}
use Rattle.wfc_explain.proofs.trial.leave_out_in_turn.Given as goal

abbrev pub invariant-loop-line : goal.invariant-loop-line
invariant-loop-line g l =
    (vec_len l.left + l.line ≡ l.lines)
    × (length l.trial.keep ≡ l.lines)
    × ((rule : Rule) → HaveRule (map (λ chooser. ((goal.Chooser-dyn g (chooser.vtable, chooser.value)).told chooser.value).rule) l.fn.choosers.items) rule
    → HaveRule (map (λ chooser. ((goal.Chooser-dyn g (chooser.vtable, chooser.value)).told chooser.value).rule) l.left.items) rule
    × (l.trial ≡ trial_after (outcome_with (g.M.PinnedProblem.seen l.pinned) rule l.budget (words_of_seed l.seed)) l.lines l.line))
