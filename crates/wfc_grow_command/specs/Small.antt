-- Lines of a pins file, a stuck block and requests that the laws speak of, and a fault of `grow` over small files.
use Rattle.std.specs.Prelude.{Bool, Err, List, [], codes, false, true, ℕ, ◌∷◌, ◌≡◌}
use Rattle.wfc_blocks.specs.Small.{block_with}
use Rattle.wfc_blocks.specs.StuckView.{StuckView}
use Rattle.wfc_choose.specs.declared.RuleKind.{RuleKind}
use Rattle.wfc_choose.specs.declared.RuleKind.TheVariants.{Fewest}
use Rattle.wfc_grow_command.specs.GrowTask.{grow_plan}
use Rattle.wfc_grow_command.specs.declared.growing.TheConstants.{GROW_CHOOSERS}
use Rattle.wfc_outside.specs.Folder.{File}
use Rattle.wfc_pins.specs.PinView.{PinView}
use Rattle.wfc_plan.specs.Kinds.{HasChoosers}
use Rattle.wfc_plan.specs.Plan.{outcome}
use Rattle.wfc_plan.specs.declared.fault.Fault.{Fault}
use Rattle.wfc_proof.specs.declared.heads.Shape.{Shape}
use Rattle.wfc_render.specs.declared.form.Form.TheVariants.{Grid, P6}
use Rattle.wfc_task.specs.Small.{sample_asked}
use Rattle.wfc_words.specs.RequestView.{RequestView}

-- the line with this number that keeps or bans a symbol of a pixel
abbrev pub pin_line : ℕ → Bool → ℕ → ℕ → List ℕ → PinView
pin_line line keep x y symbol = record { line = line; keep = keep; x = x; y = y; symbol = symbol }

-- a map of 65 blocks of one pixel
abbrev pub blocks_asked : RequestView
blocks_asked = record (sample_asked 1 Grid) { width = 65; block = 1 }

-- on this line the pixel at (1, 10) is to be an `a`
abbrev pub pin_of_a : ℕ → PinView
pin_of_a line = pin_line line true 1 10 (codes "a")

-- on this line the pixel at (2, 0) is not to be a `b`
abbrev pub ban_of_b : ℕ → PinView
ban_of_b line = pin_line line false 2 0 (codes "b")

-- block 5, of three by four at (12, 7), with a pin and a ban of a colour
abbrev pub stuck_of_two : StuckView
stuck_of_two =
    record { block = block_with 5 12 7 3 4; pins = pin_of_a 0 ∷ pin_line 6 false 2 0 (codes "1,2,3") ∷ [] }

-- a map of 21 by 13, of windows of side 6 in eight images of a sample that wraps, with seed 100 and 9 retractions
abbrev pub seeded_asked : RequestView
seeded_asked =
    record (sample_asked 6 P6) { width = 21; height = 13; seed = 100; budget = 9; symmetry = 8; wrap_in = true }

-- windows of this side on a map of this width and height that doesn't wrap, in so many images of a sample that may
abbrev pub flat_shape : ℕ → ℕ → ℕ → ℕ → Bool → Shape
flat_shape n width height symmetry wrap_in = record {
  n = n;
  width = width;
  height = height;
  depth = 1;
  symmetry = symmetry;
  wrap_in = wrap_in;
  wrap_out = false;
}

-- with choosers enough, `grow` has this fault over these files
abbrev pub HasGrowFault : RequestView → List File → Fault → Type 0
HasGrowFault asked files fault =
    (kinds : List RuleKind) → HasChoosers GROW_CHOOSERS kinds Fewest → outcome (grow_plan kinds asked) files ≡ Err fault
