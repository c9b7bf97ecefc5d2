use Rattle.std.proofs.Common.{sym, subst, ◌∙◌}
use Rattle.wfc_pattern.specs.Met.{first_images, ArePlacesOf, entries_met}
use Rattle.wfc_pattern.proofs.MetLemmas.{length_rewritten, kept_met, met_after}
use Rattle.wfc_pattern.proofs.learner.Learner.note_first.Goals as goal

pub invariant_of-self-in-Break-branch-2 : goal.invariant_of-self-in-Break-branch-2
invariant_of-self-in-Break-branch-2 c =
    let old = c.args.self.now in
    record {
      remembered = kept_met old.n old.symmetry old.tally c.note_images.new.tally c.note_images.ensures.kept (entries_met old.met.entries) old.remembered;
      square = length_rewritten old.window c.note_images.new.window ∙ old.square;
      room = length_rewritten old.spare c.note_images.new.spare ∙ old.room;
    }

pub invariant_of-self-2 : goal.invariant_of-self-2
invariant_of-self-2 c =
    let old = c.args.self.now in
    let tally = c.note_images.new.tally in
    let places : ArePlacesOf tally c.in_ok-places.places.items (first_images old.n old.symmetry c.in_ok-key.key.items) =
    subst (λ w. ArePlacesOf tally c.in_ok-places.places.items (first_images old.n old.symmetry w)) (c.deref_mut.ensures.value ∙ sym c.deref.ensures.value ∙ sym c.in_ok-key.ensures.items) c.in_ok-places.ensures.places in
    record {
      remembered =
          met_after c.insert.result old.n old.symmetry tally old.met.entries c.insert.new.self.entries c.in_ok-key.key c.in_ok-places.places
          (kept_met old.n old.symmetry old.tally tally c.note_images.ensures.kept (entries_met old.met.entries) old.remembered) places c.insert.ensures.entries c.insert.ensures.err;
      square = length_rewritten old.window c.note_images.new.window ∙ old.square;
      room = length_rewritten old.spare c.note_images.new.spare ∙ old.room;
    }
