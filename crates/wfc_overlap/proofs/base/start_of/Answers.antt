use Rattle.std.proofs.Common.{Some, ap, arith, inl, inr}
use Rattle.wfc_overlap.proofs.FlagLemmas.{start_only}
use Rattle.wfc_overlap.proofs.base.start_of.Goals as goal

pub returns-then-start-n-clause-only : goal.returns-then-start-n-clause-only
returns-then-start-n-clause-only c = λ u within is.
    let at = start_only c.args.at c.args.i c.args.n c.args.side c.args.wrap c.requires.i_in c.requires.n_in u within is in
    let below = at.0 in
    elim at.1 [ inl e ↦ ap Some (omega arith) | inr e ↦ ap Some (omega arith) ]
