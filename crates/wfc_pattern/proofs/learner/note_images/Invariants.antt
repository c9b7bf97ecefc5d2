use Rattle.std.proofs.Common.{◌≡◌, ◌/◌, fold}
use Rattle.wfc_model.specs.Image.{after_turns}
use Rattle.wfc_pattern.specs.Met.{first_images, HasKept, ArePlacesOf}
use Rattle.wfc_pattern.specs.Tally.{recount}
use Rattle.wfc_pattern.proofs.learner.note_images.Given as goal

abbrev pub invariant-loop-k : goal.invariant-loop-k
invariant-loop-k l = record {
  turned : l.window ≡ after_turns l.n l.initial.window (l.k / 2);
  noted : l.tally ≡ fold recount l.initial.tally (first_images l.n l.k l.initial.window);
  places : ArePlacesOf l.tally l.places.items (first_images l.n l.k l.initial.window);
  kept : HasKept l.initial.tally l.tally;
}
