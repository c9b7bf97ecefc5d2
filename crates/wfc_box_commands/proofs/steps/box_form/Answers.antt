use Rattle.std.proofs.Common.{arith, subst, sym}
use Rattle.wfc_box.specs.Boxes.{IsFrame}
use Rattle.wfc_box_commands.proofs.steps.box_form.Goals as goal
use Rattle.wfc_box_commands.specs.BoxSteps.{frame_asked}
use Rattle.wfc_words.specs.RequestView.{RequestView}

pub box_layout-requires : goal.box_layout-requires
box_layout-requires c =
    let frame = subst (λ (r : RequestView). IsFrame (frame_asked r)) (sym c.request.view_is) c.requires.frame in
    record {
      some_width = omega (arith, frame.some_column);
      some_height = omega (arith, frame.some_row);
      some_depth = omega (arith, frame.some_layer);
      some_side = c.side-side.ensures.some_side;
      width_limit = frame.width_limit;
      height_limit = frame.height_limit;
      depth_limit = frame.depth_limit;
      side_limit = c.side-side.ensures.limit;
    }
