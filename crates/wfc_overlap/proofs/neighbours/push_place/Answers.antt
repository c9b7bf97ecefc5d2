use Rattle.std.proofs.Common.{◌++◌, ap, arith, ◌∙◌}
use Rattle.wfc_overlap.specs.Layout.{output_of}
use Rattle.wfc_overlap.proofs.NeighbourLemmas.{four_beside}
use Rattle.wfc_overlap.proofs.PushLemmas.{four_pushed, four_are}
use Rattle.wfc_overlap.proofs.neighbours.push_place.Goals as goal

pub returns : goal.returns
returns c =
    let l = c.args.layout in
    let cells = four_are _ _ _ _ _ _ _ _ c.cell_in.ensures.value c.cell_in-2.ensures.value c.cell_in-3.ensures.value c.cell_in-4.ensures.value
    ∙ four_beside l.n (output_of l) l.columns l.rows c.args.x c.args.y l.columns_are l.rows_are c.requires.x_in c.requires.y_in
    c.along-left.result c.along-right.result c.along-up.result c.along-down.result c.along-left.ensures.value c.along-right.ensures.value c.along-up.ensures.value c.along-down.ensures.value in
    record {
      place = four_pushed _ _ _ _ _ _ _ _ _ c.push_reserved.ensures.items c.push_reserved-2.ensures.items c.push_reserved-3.ensures.items c.push_reserved-4.ensures.items
          ∙ ap (λ four. c.args.table.now.items ++ four) cells;
      length = omega (arith, c.push_reserved.ensures.len, c.push_reserved-2.ensures.len, c.push_reserved-3.ensures.len, c.push_reserved-4.ensures.len);
      capacity = omega (arith, c.push_reserved.ensures.capacity, c.push_reserved-2.ensures.capacity, c.push_reserved-3.ensures.capacity, c.push_reserved-4.ensures.capacity);
    }
