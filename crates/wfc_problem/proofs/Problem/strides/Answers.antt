-- What the hops say is what the problem has.
use Rattle.std.proofs.Common.{refl}
use Rattle.std.proofs.lemmas.Result.{IfOk-weaker}
use Rattle.wfc_problem.specs.Strides.{HaveTheirHops}
use Rattle.wfc_problem.specs.Whole.{network_of}
use Rattle.wfc_problem.proofs.StrideLemmas.{strides_are}
use Rattle.wfc_problem.proofs.Problem.strides.Goals as goal

pub returns : goal.returns
returns c =
    let s = c.self.inside in
    let n = c.args.row_len in
    let few = rw (← c.self.view_is) at c.requires.small in
    let h = c.self.invariant in
    rw (← c.self.view_is) (record {
      sides = IfOk-weaker c.strides.result (HaveTheirHops s.hops n) _
          (λ x have. strides_are (network_of s.whole (record s.parts { neighbours = s.hops.entries })) h.kept.problem n s.hops x few h.cells h.dirs refl have) c.strides.ensures.sides;
      problem = h.kept.problem;
    })
