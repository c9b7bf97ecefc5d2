use Rattle.std.proofs.Common.{◌≡◌, ◌∙◌, length, arith}
use Rattle.std.specs.Prelude.{slice_index}
use Rattle.std.proofs.lemmas.List.{take_all}
use Rattle.std.proofs.lemmas.List.FromFn.{length-map-range_with_len}
use Rattle.wfc_problem.specs.Rounds.{greatest}
use Rattle.wfc_problem.specs.Sizes.{values_at}
use Rattle.wfc_search.specs.Search.{assignment_of}
use Rattle.wfc_runs.proofs.runs.assignment.Goals as goal

pub returns : goal.returns
returns g c =
    let P = c.args.problem.now in
    let standing = c.args.search.now.store.standing in
    let many : length (assignment_of P standing) ≡ P.cells = length-map-range_with_len (λ x. slice_index (values_at P (greatest P standing) x) 0) 0 P.cells in
    record { value = c.loop-cell.invariant ∙ take_all c.loop-cell.cell (assignment_of P standing) (omega (arith, many, c.loop-cell-test.false, c.cells-cell-end.ensures.value)) }
