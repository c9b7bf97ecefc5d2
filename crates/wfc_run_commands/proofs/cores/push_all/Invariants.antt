-- The lines of the kept lines before this one are written.
use Rattle.std.proofs.Common.{take, ◌++◌, ◌≡◌}
use Rattle.std.specs.List.{flat_map}
use Rattle.wfc_run_commands.proofs.cores.push_all.Given as goal
use Rattle.wfc_run_commands.specs.ExplainAnswer.{kept_line}
use Rattle.wfc_run_commands.specs.ExplainTask.{line_numbers}

abbrev pub invariant-loop-kept : goal.invariant-loop-kept
invariant-loop-kept l = l.text.items ≡ l.initial.text.items ++ flat_map (kept_line (line_numbers l.lines)) (take l.kept-index l.core)
