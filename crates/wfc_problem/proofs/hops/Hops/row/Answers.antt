-- The row of a cell is the one of its kind.
use Rattle.std.proofs.Common.{◌≡◌, ◌+◌, ◌-◌, ◌*◌, ◌∙◌, ap, arith, take, drop, map, get_or}
use Rattle.wfc_problem.specs.Hops.{hop_cell, table_row}
use Rattle.wfc_problem.proofs.HopLemmas.{hops_named}
use Rattle.wfc_problem.proofs.hops.Hops.row.Goals as goal

pub returns : goal.returns
returns c = rw (← c.self.view_is)
    (let s = c.self.inside in
    let cell = c.args.cell in
    let k = c.kind_at.result in
    let d = s.dirs in
    let l = ap (λ B. B.cells) c.self.view_is in
    let kind : k ≡ get_or s.kinds.items cell cell = c.kind_at.ensures.value ∙ ap (λ xs. get_or xs cell cell) c.deref.ensures.value in
    record {
      value =
          ap (map (hop_cell cell))
          (ap (λ m. take m (drop (k * d) c.deref-2.result.now)) (let e : k * d + d - k * d ≡ d = omega arith in e)
          ∙ ap (table_row d c.deref-2.result.now) kind
          ∙ ap (λ xs. table_row d xs (get_or s.kinds.items cell cell)) c.deref-2.ensures.value)
          ∙ hops_named s.cells d s.kinds.items s.rows.items cell c.self.invariant (omega (arith, c.requires.cell_in, l));
    })
