-- A small problem that the laws speak of, and steps for it.
use Rattle.std.specs.Prelude.{true, false, List, [], ◌∷◌, codes}
use Rattle.wfc_problem.specs.Network.{Network}
use Rattle.wfc_problem.specs.declared.Literal.TheVariants.{Is, Not}
use Rattle.wfc_pins.specs.PinView.{PinView}
use Rattle.wfc_pins.specs.declared.steps.Step.{Step}
use Rattle.wfc_pins.specs.declared.steps.Step.TheVariants.{Assume, Undo}
use Rattle.wfc_pins.specs.declared.steps.StepLine.{StepLine}

-- three cells and two values; no neighbours are asked for
abbrev pub three_cells : Network
three_cells = record { cells = 3; dirs = 4; neighbours = []; weights = 7 ∷ 5 ∷ []; supports = []; base = [] }

-- three steps, of which the first fits that problem, the second names a value that it lacks and the third a cell
abbrev pub three_steps : List StepLine
three_steps =
    record { line = 3; step = Assume (Is 0 0) } ∷ record { line = 5; step = Assume (Not 2 0) }
    ∷ record { line = 8; step = Assume (Is 0 9) } ∷ []

-- steps that name the third value of that problem, which it lacks, or the fourth cell
abbrev pub steps_past : List Step
steps_past = Assume (Is 2 1) ∷ Assume (Not 2 1) ∷ Assume (Is 1 3) ∷ Assume (Not 1 3) ∷ []

-- a step of each kind: value 2 is chosen for cell 7, value 3 forbidden at cell 1, and that undone
abbrev pub three_kinds : List StepLine
three_kinds =
    record { line = 1; step = Assume (Is 2 7) } ∷ record { line = 3; step = Assume (Not 3 1) }
    ∷ record { line = 4; step = Undo } ∷ []

-- a pin of a blank in the second line of a text, and a ban of a colour in the fourth
abbrev pub pin_and_ban : List PinView
pin_and_ban =
    record { line = 2; keep = true; x = 2; y = 5; symbol = codes "\\s" }
    ∷ record { line = 4; keep = false; x = 1; y = 0; symbol = codes "9,9,9" } ∷ []
