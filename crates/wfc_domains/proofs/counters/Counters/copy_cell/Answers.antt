use Rattle.std.proofs.Common.{◌*◌}
use Rattle.wfc_domains.specs.Loaded.{IsRowCopied}
use Rattle.wfc_domains.proofs.FormLemmas.{even_rows, paired_related, alone_related}
use Rattle.wfc_domains.proofs.Loading.{copied-table}
use Rattle.wfc_domains.proofs.counters.Counters.copy_cell.Goals as goal

pub copy-requires-clause-even : goal.copy-requires-clause-even
copy-requires-clause-even g c =
    let a = c.self.inside in
    let even = c.self.invariant.even c.if-self.true in
    (even_rows c.args.from (a.values * a.dirs) even, even, even_rows c.args.to (a.values * a.dirs) even)

pub returns-then-self-clause-copied : goal.returns-then-self-clause-copied
returns-then-self-clause-copied g c =
    let a = c.self.inside in
    let ht = rw (← c.self.view_is) at c.requires.to_in in
    let row = a.values * a.dirs in
    let now = paired_related (λ xs ys. IsRowCopied xs ys (c.args.from * row) row (c.args.to * row)) a.is_paired a.pairs c.copy.new.self a.singles c.if-self.true c.copy.ensures.copied in
    rw (← c.self.view_is) (copied-table a.values a.dirs a.cells c.args.from c.args.to _ _ c.self.invariant.whole ht now.0 now.1)

pub returns-else-self-clause-copied : goal.returns-else-self-clause-copied
returns-else-self-clause-copied g c =
    let a = c.self.inside in
    let ht = rw (← c.self.view_is) at c.requires.to_in in
    let row = a.values * a.dirs in
    let now = alone_related (λ xs ys. IsRowCopied xs ys (c.args.from * row) row (c.args.to * row)) a.is_paired a.pairs a.singles c.copy-else-self.new.self c.if-self.false c.copy-else-self.ensures.limit c.copy-else-self.ensures.copied in
    rw (← c.self.view_is) (copied-table a.values a.dirs a.cells c.args.from c.args.to _ _ c.self.invariant.whole ht now.0 now.1)
