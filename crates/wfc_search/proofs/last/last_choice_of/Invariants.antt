use Rattle.std.proofs.Common.{◌≡◌, ◌≤◌, drop, length, None}
use Rattle.wfc_search.specs.Run.{last_choice}
use Rattle.wfc_search.proofs.last.last_choice_of.Given as goal

-- there is no choice from here on
abbrev pub invariant-loop-at : goal.invariant-loop-at
invariant-loop-at l = record {
  within : l.at ≤ length l.standing;
  none : last_choice (drop l.at l.standing) ≡ None;
}

abbrev pub decreases-loop-at : goal.decreases-loop-at
decreases-loop-at l = l.at
