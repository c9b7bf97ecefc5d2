use Rattle.std.proofs.Common.{◌≤◌, ◌++◌, length, ap, ◌∙◌, arith}
use Rattle.std.proofs.lemmas.List.{take_all}
use Rattle.std.specs.List.{flat_map}
use Rattle.wfc_render.specs.Drawn.{drawn_lines, start_in}
use Rattle.wfc_render.proofs.TiledLemmas.{drawn_is}
use Rattle.wfc_render.proofs.tiled.drawn_rows.Goals as goal

pub returns : goal.returns
returns c =
    let set = c.args.tiles.now in
    let m = c.args.picture.now in
    let past : length m.rows ≤ c.loop-y.y = omega arith in
    record {
      text = c.loop-y.invariant ∙ ap (λ rows. start_in c.args.form set m ++ flat_map (drawn_lines c.args.form set) rows) (take_all c.loop-y.y m.rows past)
          ∙ drawn_is set m c.args.form c.requires.no_cells;
    }
