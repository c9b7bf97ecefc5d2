use Rattle.std.proofs.Common.{refl}
use Rattle.wfc_log.specs.Domains.{has}
use Rattle.wfc_domains.proofs.Loading.{loaded-copied, surrounded-alike}
use Rattle.wfc_domains.proofs.counters.Counters.load_like.Goals as goal

pub returns-in-Some-clause-after : goal.returns-in-Some-clause-after
returns-in-Some-clause-after g c =
    loaded-copied _ _ _ _ c.in-Some.next c.args.cell c.requires.before c.in-Some.ensures.before c.requires.cell_in c.in-Some.ensures.same c.copy_cell.ensures.copied

pub returns-in-Some-like-clause-after : goal.returns-in-Some-like-clause-after
returns-in-Some-like-clause-after g c =
    let P = c.args.problem.now in
    let D = has c.args.domains.now in
    let like = rw c.in-Some-like.is at c.requires.like in
    let same = surrounded-alike P D c.in-Some-like.earlier c.args.cell P.dirs like.surrounded (c.if-not-is_surrounded.ensures.all refl) in
    loaded-copied _ _ _ _ c.in-Some-like.earlier c.args.cell c.requires.before like.earlier c.requires.cell_in same c.copy_cell-in-Some-like.ensures.copied
