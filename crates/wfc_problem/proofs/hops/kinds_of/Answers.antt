-- The next cell has its kind, and the rows of the kinds before stand as they stood.
use Rattle.std.proofs.Common.{◌≡◌, ◌+◌, ◌-◌, ◌*◌, ◌∙◌, ap, arith, length, map, take, drop, sym}
use Rattle.std.specs.Prelude.{is_some, is_ok}
use Rattle.std.proofs.lemmas.Bool.{cond-true}
use Rattle.wfc_problem.specs.Hops.{table_row}
use Rattle.wfc_problem.specs.HopsMade.{hop_of}
use Rattle.wfc_problem.proofs.HopLemmas.{kinds_more, row_length}
use Rattle.wfc_problem.proofs.hops.kinds_of.Goals as goal

pub loop-cell-preserved : goal.loop-cell-preserved
loop-cell-preserved c =
    let table = c.args.table.now in
    let cell = c.loop-cell.cell in
    let dirs = c.args.dirs in
    let row = take (cell * dirs + dirs - cell * dirs) (drop (cell * dirs) table) in
    let is_row : row ≡ table_row dirs table cell = ap (λ m. take m (drop (cell * dirs) table)) (let e : cell * dirs + dirs - cell * dirs ≡ dirs = omega arith in e) in
    let long : length row ≡ dirs = ap length is_row ∙ row_length dirs table cell c.args.cells c.requires.table c.loop-cell-test.true in
    kinds_more dirs table c.args.cells cell c.loop-cell.kinds.items c.loop-cell.rows.items c.push.new.self.items c.kind_of.new.rows.items c.in_ok-kind.kind
    c.requires.some_dir c.requires.table c.loop-cell-test.true c.loop-cell.invariant
    c.in_ok-kind.ensures.stay
    (ap (λ m. table_row m c.kind_of.new.rows.items c.in_ok-kind.kind) (sym long) ∙ c.in_ok-kind.ensures.kind ∙ ap (map (hop_of cell)) is_row)
    (c.push.ensures.items ∙ cond-true (is_ok c.push.result) _ _ (sym c.ok-in-loop-cell.ensures.variant ∙ ap is_some c.in_ok-ok.was))
