use Rattle.std.proofs.Common.{◌∙◌, arith, length}
use Rattle.std.proofs.lemmas.List.{get_or_read}
use Rattle.wfc_log.proofs.Rows.{size-is, size-few}
use Rattle.wfc_log.proofs.domains.Domains.size.Goals as goal

pub returns-clause-value : goal.returns-clause-value
returns-clause-value c =
    let a = c.self.inside in
    let hc = rw (← c.self.view_is) at c.requires.cell_in in
    let read = get_or_read a.sizes.items c.args.cell c.index.result.now hc c.index.ensures 0 in
    rw (← c.self.view_is) (c.from.ensures ∙ size-is a.values a.flags a.sizes.items c.args.cell c.index.result.now c.self.invariant hc read)

pub returns-clause-few : goal.returns-clause-few
returns-clause-few c =
    let a = c.self.inside in
    let hc = rw (← c.self.view_is) at c.requires.cell_in in
    let read = get_or_read a.sizes.items c.args.cell c.index.result.now hc c.index.ensures 0 in
    let is = c.from.ensures ∙ size-is a.values a.flags a.sizes.items c.args.cell c.index.result.now c.self.invariant hc read in
    omega (arith, is, size-few (record { cells = length a.sizes.items; values = a.values; flags = a.flags }) c.args.cell, c.self.invariant.small)
