use Rattle.std.proofs.Common.{◌≡◌, ◌+◌, ◌-◌, ◌*◌, ◌<◌, [], length, get_or, sym, ap, ◌∙◌, arith}
use Rattle.std.proofs.lemmas.Option.{get_or_from_slice_get}
use Rattle.wfc_model.proofs.CallerLemmas.{place_in_square}
use Rattle.wfc_pattern.specs.Patterns.{window_at}
use Rattle.wfc_overlap.specs.Layout.{output_of}
use Rattle.wfc_overlap.proofs.PaintLemmas.{nearest_is, cell_inside_of, pixel_is}
use Rattle.wfc_overlap.proofs.painting.number_at.Goals as goal

pub bounds-assignment-v : goal.bounds-assignment-v
bounds-assignment-v c =
    let l = c.args.layout in
    let u = nearest_is l.width l.n l.wrap l.columns c.args.x c.nearest-u.result l.columns_are c.requires.x_in l.some_side l.wide c.nearest-u.ensures.value in
    let v = nearest_is l.height l.n l.wrap l.rows c.args.y c.nearest-v.result l.rows_are c.requires.y_in l.some_side l.high c.nearest-v.ensures.value in
    cell_inside_of l.width l.height l.n l.wrap l.columns l.rows c.nearest-u.result c.nearest-v.result (length c.args.assignment.now) l.columns_are l.rows_are c.requires.each_place u.inside v.inside

pub window-requires : goal.window-requires
window-requires c =
    let l = c.args.layout in
    let u = nearest_is l.width l.n l.wrap l.columns c.args.x c.nearest-u.result l.columns_are c.requires.x_in l.some_side l.wide c.nearest-u.ensures.value in
    let v = nearest_is l.height l.n l.wrap l.rows c.args.y c.nearest-v.result l.rows_are c.requires.y_in l.some_side l.high c.nearest-v.ensures.value in
    record {
      p_in = c.requires.values (c.nearest-v.result * l.columns + c.nearest-u.result) 0
          (cell_inside_of l.width l.height l.n l.wrap l.columns l.rows c.nearest-u.result c.nearest-v.result (length c.args.assignment.now) l.columns_are l.rows_are c.requires.each_place u.inside v.inside);
    }

pub bounds-window-entry : goal.bounds-window-entry
bounds-window-entry c =
    let l = c.args.layout in
    let P = c.args.patterns.now in
    let w = c.window.result.now in
    let u = nearest_is l.width l.n l.wrap l.columns c.args.x c.nearest-u.result l.columns_are c.requires.x_in l.some_side l.wide c.nearest-u.ensures.value in
    let v = nearest_is l.height l.n l.wrap l.rows c.args.y c.nearest-v.result l.rows_are c.requires.y_in l.some_side l.high c.nearest-v.ensures.value in
    let cell = c.nearest-v.result * l.columns + c.nearest-u.result in
    let p = get_or c.args.assignment.now cell 0 in
    let inside : p < length P.windows = c.requires.values cell 0 (cell_inside_of l.width l.height l.n l.wrap l.columns l.rows c.nearest-u.result c.nearest-v.result (length c.args.assignment.now) l.columns_are l.rows_are c.requires.each_place u.inside v.inside) in
    let window_is : window_at P p ≡ w = get_or_from_slice_get P.windows p w [] c.window.ensures.value in
    let long : length w ≡ P.n * P.n = ap length (sym window_is) ∙ c.window.ensures.patterns.squares p [] inside in
    let area : l.n * l.n ≡ P.n * P.n = ap (λ k. k * k) c.requires.n in
    omega (arith, place_in_square l.n (c.args.x - c.nearest-u.result) (c.args.y - c.nearest-v.result) u.within v.within, long, area)

pub returns : goal.returns
returns c =
    let l = c.args.layout in
    let P = c.args.patterns.now in
    let w = c.window.result.now in
    let u = nearest_is l.width l.n l.wrap l.columns c.args.x c.nearest-u.result l.columns_are c.requires.x_in l.some_side l.wide c.nearest-u.ensures.value in
    let v = nearest_is l.height l.n l.wrap l.rows c.args.y c.nearest-v.result l.rows_are c.requires.y_in l.some_side l.high c.nearest-v.ensures.value in
    let p = get_or c.args.assignment.now (c.nearest-v.result * l.columns + c.nearest-u.result) 0 in
    let window_is : window_at P p ≡ w = get_or_from_slice_get P.windows p w [] c.window.ensures.value in
    record { value = pixel_is P (output_of l) c.args.assignment.now l.n l.columns c.args.x c.args.y c.nearest-u.result c.nearest-v.result w c.requires.n l.columns_are u.same v.same window_is }
