-- The mask of a map whose lines are left out.
use Rattle.std.specs.Prelude.{ℕ, Option, None, Some}
use Rattle.std.specs.Borrow.{Bor}
use Rattle.wfc_tiled.specs.Mask.{MaskView, plain_mask}
use Rattle.wfc_explain.specs.declared.tile_pins.HeldMask.{HeldMask}
use Rattle.wfc_explain.specs.declared.tile_pins.HeldMask.TheVariants.{Given, Plain}

-- the mask that is given, or the one without holes
abbrev pub given_mask : Option (Bor MaskView) → ℕ → ℕ → MaskView
given_mask None width height = plain_mask width height
given_mask (Some mask) width height = mask.now

-- the same, as the code holds it
abbrev pub held_mask : HeldMask → MaskView
held_mask (Given mask) = mask.now
held_mask (Plain mask) = mask
