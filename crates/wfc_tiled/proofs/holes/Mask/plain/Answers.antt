use Rattle.std.proofs.Common.{List, ℕ, sym, subst}
use Rattle.wfc_tiled.specs.Mask.{IsMask}
use Rattle.wfc_tiled.proofs.MaskLemmas.{plain_is}
use Rattle.wfc_tiled.proofs.holes.Mask.plain.Goals as goal

pub new-requires : goal.new-requires
new-requires c = record {
  mask =
      subst (λ (ns : List ℕ). IsMask (record { width = c.args.width; height = c.args.height; places = ns })) (sym c.in_ok-places.ensures.value)
      (plain_is c.args.width c.args.height c.requires.some_width c.requires.some_height c.requires.width_limit c.requires.height_limit);
}
