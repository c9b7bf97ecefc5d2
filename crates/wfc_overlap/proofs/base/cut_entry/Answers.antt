use Rattle.std.proofs.Common.{sym, ap, ◌∙◌}
use Rattle.wfc_model.specs.Legal.{Pin}
use Rattle.wfc_overlap.specs.Layout.{output_of}
use Rattle.wfc_overlap.proofs.FlagLemmas.{cut_entry_at, row_inside}
use Rattle.wfc_overlap.proofs.base.cut_entry.Goals as goal

pub cut_place-requires-clause-row : goal.cut_place-requires-clause-row
cut_place-requires-clause-row c =
    let l = c.args.layout in
    row_inside c.args.patterns.now (output_of l) c.args.flags.now l.n l.columns c.in-Some.x c.in-Some-start_of.y c.requires.n l.columns_are c.requires.table c.in-Some.ensures.found.0 c.in-Some-start_of.ensures.found.0

pub returns : goal.returns
returns c =
    let l = c.args.layout in
    let column = ap (λ (m : Pin). m.column) c.mark.view_is in
    let row = ap (λ (m : Pin). m.row) c.mark.view_is in
    record {
      cut = cut_entry_at c.args.patterns.now (output_of l) c.args.flags.now c.cut_place.new.flags c.args.mark.now c.args.i c.args.j c.in-Some.x c.in-Some-start_of.y l.n l.columns c.requires.n l.columns_are
          c.in-Some.ensures.found.0 (c.in-Some.ensures.found.1 ∙ column) (c.in-Some-start_of.ensures.found.1 ∙ row)
          (λ x x_in on. c.in-Some.ensures.only x x_in (on ∙ sym column)) (λ y y_in on. c.in-Some-start_of.ensures.only y y_in (on ∙ sym row))
          c.cut_place.ensures.cut.as_long c.cut_place.ensures.cut.here c.cut_place.ensures.cut.others;
    }
