-- Where the base is whole, each size is the number of values.
use Rattle.std.proofs.Common.{◌<◌, sym, ◌∙◌, ap, get_or}
use Rattle.std.proofs.lemmas.List.{get_or-replicate}
use Rattle.wfc_problem.proofs.CallerLemmas.{whole_row}
use Rattle.wfc_log.proofs.domains.base_sizes.Goals as goal

pub returns-then-is_whole-clause-each : goal.returns-then-is_whole-clause-each
returns-then-is_whole-clause-each c = λ cell l.
    let P = c.args.problem.now in
    let whole = sym c.is_whole.ensures.value ∙ c.if-is_whole.true in
    let items = c.in_ok-vec.ensures.items_if_clones_equal (λ y e. e) in
    let inside : cell < c.cells.result = rw c.cells.ensures.value l in
    ap (λ sizes. get_or sizes cell 0) items
    ∙ get_or-replicate c.cells.result cell c.values.result 0 inside
    ∙ c.values.ensures.value
    ∙ sym (whole_row P c.is_whole.ensures.problem whole cell l)
