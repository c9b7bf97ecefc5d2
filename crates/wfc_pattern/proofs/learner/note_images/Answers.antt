use Rattle.std.proofs.Common.{◌≡◌, ◌+◌, sym, subst, arith}
use Rattle.wfc_pattern.specs.Met.{first_images, ArePlacesOf}
use Rattle.wfc_model.specs.Image.{image}
use Rattle.wfc_pattern.proofs.MetLemmas.{kept_places, image_placed}
use Rattle.wfc_pattern.specs.Tally.{total}
use Rattle.wfc_pattern.proofs.ArisingLemmas.{turned_more, images_more, total-images}
use Rattle.wfc_pattern.proofs.learner.note_images.Goals as goal

pub note_image-requires-clause-fits : goal.note_image-requires-clause-fits
note_image-requires-clause-fits c =
    let so_far : total c.loop-k.tally ≡ total c.args.tally.now + c.loop-k.k = total-images (image c.args.n c.args.window.now) c.loop-k.k c.args.tally.now c.loop-k.tally c.loop-k.invariant.noted in
    omega arith

pub loop-k-preserved : goal.loop-k-preserved
loop-k-preserved c =
    let done = c.in_ok-at.ensures in
    record {
      turned = turned_more c.args.n c.args.window.now c.loop-k.k c.loop-k.window c.note_image.new.window c.loop-k.invariant.turned done.turned;
      noted =
          images_more c.args.n c.args.window.now c.loop-k.k c.loop-k.window c.args.tally.now c.loop-k.tally c.note_image.new.tally c.loop-k.invariant.turned c.loop-k.invariant.noted done.noted;
      places =
          subst (λ ats. ArePlacesOf c.note_image.new.tally ats (first_images c.args.n (c.loop-k.k + 1) c.args.window.now)) (sym c.in_ok-push.ensures.items)
          (image_placed c.args.n c.args.window.now c.loop-k.k c.loop-k.window c.note_image.new.tally c.loop-k.places.items c.in_ok-at.at c.loop-k.invariant.turned
          (kept_places c.loop-k.tally c.note_image.new.tally c.note_image.ensures.kept c.loop-k.places.items (first_images c.args.n c.loop-k.k c.args.window.now) c.loop-k.invariant.places) done.place);
      kept = λ at w stands. c.note_image.ensures.kept at w (c.loop-k.invariant.kept at w stands);
    }
