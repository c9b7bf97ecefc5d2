use Rattle.std.proofs.Common.{subst}
use Rattle.wfc_explain.specs.Masks.{held_mask}
use Rattle.wfc_explain.specs.Pinned.{IsPinned}
use Rattle.wfc_explain.specs.Problems.{TilesPins, pinned_tiles}
use Rattle.wfc_explain.proofs.ProblemLemmas.{tiles_are_pinned}
use Rattle.wfc_explain.proofs.tile_pins.TilePinsPinnedProblem.lines.Goals as goal

pub returns-clause-pinned : goal.returns-clause-pinned
returns-clause-pinned c =
    let i = c.self.inside in
    let s : TilesPins = record { tiles = i.tiles.now; mask = held_mask i.mask; wrap = i.wrap; pins = i.marks.items } in
    subst (λ (t : TilesPins). IsPinned (pinned_tiles t)) c.self.view_is (tiles_are_pinned s c.self.invariant.0)
