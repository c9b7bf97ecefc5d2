-- A row lies within the table, and its sides are kept behind the others.
use Rattle.std.proofs.Common.{◌≡◌, ◌+◌, ◌-◌, ◌*◌, length, take, drop, ap, ◌∙◌, subst, arith}
use Rattle.std.proofs.lemmas.List.{length_push}
use Rattle.std.specs.Prelude.{IfSome}
use Rattle.wfc_problem.specs.Hops.{table_row}
use Rattle.wfc_problem.specs.Strides.{AreSidesOf}
use Rattle.wfc_problem.proofs.StrideLemmas.{row_within, sides_more, sides_by_row}
use Rattle.wfc_problem.proofs.strides.Strides.new.Goals as goal
use Rattle.wfc_problem.proofs.strides.Strides.new.Goals.{then-is_empty, else-is_empty}

pub slice_bounds-of-end : goal.slice_bounds-of-end
slice_bounds-of-end c = elim c.if-is_empty.branch [
  | then-is_empty w ↦ absurd (omega (arith, w.so_many-is, c.loop-kind-test.true))
  | else-is_empty w ↦ row_within (length c.args.rows.now) c.args.dirs c.loop-kind.kind c.requires.some_dir (omega (arith, w.so_many-is, c.loop-kind-test.true))
]

pub loop-kind-preserved : goal.loop-kind-preserved
loop-kind-preserved c =
    let h = c.loop-kind.invariant in
    let rows = c.args.rows.now in
    let dirs = c.args.dirs in
    let start = c.loop-kind.kind * dirs in
    let is_row : take (start + dirs - start) (drop start rows) ≡ table_row dirs rows c.loop-kind.kind = ap (λ m. take m (drop start rows)) (let e : start + dirs - start ≡ dirs = omega arith in e) in
    record {
      so_many = ap length c.in_ok-push.ensures.items ∙ length_push c.loop-kind.sides.items _ ∙ ap (λ m. m + 1) h.so_many;
      sides = sides_more dirs c.args.row_len c.loop-kind.kind rows c.loop-kind.sides.items c.push.new.self.items c.of.result h.so_many h.sides
          (subst (λ row. IfSome c.of.result (AreSidesOf c.args.row_len row)) is_row c.of.ensures.some) c.in_ok-push.ensures.items;
    }

pub returns : goal.returns
returns c = record {
  sides = sides_by_row c.args.dirs c.args.row_len c.args.kinds.now c.args.rows.now c.loop-kind.sides.items c.loop-kind.invariant.sides;
}
