use Rattle.std.proofs.Common.{false, subst, sym, ◌≡◌}
use Rattle.std.specs.Prelude.{IfOk}
use Rattle.wfc_box.specs.BoxText.{box_text}
use Rattle.wfc_box.specs.Boxes.{box_of, frame_of}
use Rattle.wfc_box.specs.Written.{IsWrittenBox}
use Rattle.wfc_box_commands.proofs.BoxTextLemmas.{layers_written}
use Rattle.wfc_box_commands.proofs.fill_command.layers.Goals as goal
use Rattle.wfc_words.specs.RequestView.{RequestView}

pub box_bytes-requires : goal.box_bytes-requires
box_bytes-requires c =
    let task = c.args.filling.now in
    let a = c.args.assignment.now in
    record {
      written = subst (λ (r : RequestView). IsWrittenBox task.form task.tiles r.width r.height r.depth a) (sym c.request.view_is)
          (layers_written c.args.request.now task c.kind.result a c.requires.frame c.requires.filling c.cells.ensures.problem c.kind.ensures.value c.kind.ensures.complete c.requires.legal);
    }

pub returns : goal.returns
returns c =
    let task = c.args.filling.now in
    let a = c.args.assignment.now in
    record {
      text = subst (λ (r : RequestView). IfOk c.box_bytes.result (λ text. text.items ≡ box_text task.form task.tiles (box_of (frame_of r.width r.height r.depth false) a))) c.request.view_is c.box_bytes.ensures.text;
    }
