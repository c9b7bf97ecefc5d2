-- The row of hops of a cell says what is beside it.
use Rattle.std.proofs.lemmas.Result.{IfOk-weaker}
use Rattle.wfc_problem.specs.Strides.{AreSidesByKind}
use Rattle.wfc_problem.proofs.StrideLemmas.{by_their_hops}
use Rattle.wfc_problem.proofs.hops.Hops.strides.Goals as goal

pub returns : goal.returns
returns c = rw (← c.self.view_is)
    (let s = c.self.inside in
    let n = c.args.row_len in
    record {
      sides = IfOk-weaker c.new.result (AreSidesByKind s.dirs c.deref.result.now c.deref-2.result.now n) _
          (λ x by. by_their_hops s.cells s.dirs n s.kinds.items s.rows.items c.deref.result.now c.deref-2.result.now x c.deref.ensures.value c.deref-2.ensures.value c.self.invariant by) c.new.ensures.sides;
    })
