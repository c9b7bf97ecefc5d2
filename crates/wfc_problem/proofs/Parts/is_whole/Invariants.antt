use Rattle.std.proofs.Common.{◌≡◌, drop}
use Rattle.std.specs.Prelude.{◌&&◌}
use Rattle.std.specs.List.{list_all}
use Rattle.wfc_problem.specs.Whole.{is_whole}
use Rattle.wfc_problem.proofs.Parts.is_whole.Given as goal

abbrev pub invariant-loop-flag : goal.invariant-loop-flag
invariant-loop-flag l =
    is_whole l.self ≡ (l.whole && list_all (λ flag. flag) (drop l.flag-index l.self.base))
