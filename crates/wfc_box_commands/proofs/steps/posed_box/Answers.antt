use Rattle.std.proofs.Common.{Ok, Result, subst, sym}
use Rattle.wfc_box.specs.Boxes.{IsFrame}
use Rattle.wfc_box.specs.Built.{box_built}
use Rattle.wfc_box_commands.proofs.BoxTextLemmas.{boxed_result}
use Rattle.wfc_box_commands.proofs.steps.posed_box.Goals as goal
use Rattle.wfc_box_commands.specs.BoxSteps.{frame_asked}
use Rattle.wfc_outside.specs.Gives.{Gives}
use Rattle.wfc_pins.specs.declared.fault.BuildFault.{BuildFault}
use Rattle.wfc_pins.specs.declared.fault.BuildFault.TheVariants as builds
use Rattle.wfc_problem.specs.Network.{Network}
use Rattle.wfc_words.specs.RequestView.{RequestView}

pub returns-clause-boxed : goal.returns-clause-boxed
returns-clause-boxed c =
    let set = c.args.tiles.now in
    let stacked = c.args.stacks.now in
    let lines = c.args.lines.now in
    boxed_result c.args.request.now set stacked lines c.in_ok-build.field-0
    (subst (λ (r : RequestView). Gives builds.NoMemory (λ problem. problem) (let made : Result Network BuildFault = Ok c.in_ok-build.field-0 in made) (box_built set stacked (frame_asked r) lines)) c.request.view_is c.in_ok-build.ensures.exact)

pub build-requires : goal.build-requires
build-requires c =
    let frame = subst (λ (r : RequestView). IsFrame (frame_asked r)) (sym c.request.view_is) c.requires.frame in
    record { some_width = frame.some_column; some_height = frame.some_row; some_depth = frame.some_layer; width_limit = frame.width_limit; height_limit = frame.height_limit; depth_limit = frame.depth_limit }
