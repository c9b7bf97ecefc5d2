use Rattle.std.proofs.Common.{◌++◌, ℕ, Bool, [], ap, ◌∙◌, if◌then◌else◌}
use Rattle.wfc_render.specs.LearnedTiles.{is_allowed, pair_line}
use Rattle.wfc_render.proofs.KeptLemmas.{kept_written}
use Rattle.wfc_render.proofs.tile_texts.push_pairs_of.Goals as goal

pub loop-w-preserved : goal.loop-w-preserved
loop-w-preserved c =
    let p : ℕ → Bool = λ w. is_allowed c.args.way c.args.tiles.now c.args.v w in
    let w = c.loop-w.w in
    kept_written (pair_line c.args.v) p w c.args.text.now.items c.loop-w.text.items c.push_pair_if.new.text.items c.loop-w.invariant
    (c.in_ok-push_pair_if.ensures.line ∙ ap (λ (b : Bool). c.loop-w.text.items ++ (if b then pair_line c.args.v w else [])) c.is_allowed.ensures.value)
