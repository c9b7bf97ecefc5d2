-- The pairs are all that there are, or the flags of the base that are set.
use Rattle.std.proofs.Common.{refl, sym, ◌∙◌, ap}
use Rattle.std.specs.Prelude.{count_by}
use Rattle.wfc_problem.specs.Network.{Network}
use Rattle.wfc_problem.specs.Whole.{network_of}
use Rattle.wfc_problem.proofs.Flags.{depth_flags}
use Rattle.wfc_problem.proofs.Whole.{base_kept, depth_kept}
use Rattle.wfc_problem.proofs.Problem.depth.Goals as goal

pub returns-then-self-clause-value : goal.returns-then-self-clause-value
returns-then-self-clause-value c = rw (← c.self.view_is)
    (let s = c.self.inside in
    let P : Network = record s.parts { neighbours = s.hops.entries } in
    let counted = depth_kept s.whole P (network_of s.whole P) refl c.if-self.true c.self.invariant.kept.problem in
    c.pairs.ensures.value ∙ sym counted)

pub returns-else-self-clause-value : goal.returns-else-self-clause-value
returns-else-self-clause-value c = rw (← c.self.view_is)
    (let s = c.self.inside in
    let P : Network = record s.parts { neighbours = s.hops.entries } in
    let same = base_kept s.whole P (network_of s.whole P) refl c.if-self.false in
    c.depth.ensures.count ∙ ap (count_by (λ b. b)) same ∙ sym (depth_flags (network_of s.whole P) c.self.invariant.kept.problem))
