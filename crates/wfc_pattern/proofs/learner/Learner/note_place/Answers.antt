use Rattle.std.proofs.Common.{◌≡◌, length, fold, ap, ◌∙◌, arith, rules}
use Rattle.std.proofs.lemmas.List.{with_items_is}
use Rattle.wfc_model.specs.Window.{window}
use Rattle.wfc_pattern.specs.Met.{first_images, ArePlacesOf, entries_met}
use Rattle.wfc_pattern.specs.Tally.{recount}
use Rattle.wfc_pattern.proofs.MetLemmas.{kept_met, places_lent, noted_places, places_within, length_places}
use Rattle.wfc_pattern.proofs.learner.Learner.note_place.Goals as goal

pub raise_all-requires-clause-places_in : goal.raise_all-requires-clause-places_in
raise_all-requires-clause-places_in c =
    let old = c.args.self.now in
    let w = c.as_slice.result.now in
    let are : ArePlacesOf old.tally c.deref.result.now (first_images old.n old.symmetry w) =
    places_lent old.n old.symmetry old.tally old.met.entries w c.in-Some.places.now c.deref.result.now old.remembered c.in-Some.ensures.value c.deref.ensures.value in
    places_within old.tally c.deref.result.now (first_images old.n old.symmetry w) are

pub raise_all-requires-clause-fits : goal.raise_all-requires-clause-fits
raise_all-requires-clause-fits c =
    let old = c.args.self.now in
    let w = c.as_slice.result.now in
    let are : ArePlacesOf old.tally c.deref.result.now (first_images old.n old.symmetry w) =
    places_lent old.n old.symmetry old.tally old.met.entries w c.in-Some.places.now c.deref.result.now old.remembered c.in-Some.ensures.value c.deref.ensures.value in
    let long : length c.deref.result.now ≡ old.symmetry = length_places old.tally c.deref.result.now old.n old.symmetry w are in
    omega arith

pub invariant_of-self : goal.invariant_of-self
invariant_of-self c =
    let old = c.args.self.now in
    record {
      remembered = kept_met old.n old.symmetry old.tally c.raise_all.new.tally c.raise_all.ensures.kept (entries_met old.met.entries) old.remembered;
      square = search rules;
      room = search rules;
    }

pub returns-in-Some-clause-noted : goal.returns-in-Some-clause-noted
returns-in-Some-clause-noted c =
    let old = c.args.self.now in
    let w = c.as_slice.result.now in
    let are : ArePlacesOf old.tally c.deref.result.now (first_images old.n old.symmetry w) =
    places_lent old.n old.symmetry old.tally old.met.entries w c.in-Some.places.now c.deref.result.now old.remembered c.in-Some.ensures.value c.deref.ensures.value in
    let long : length c.window_into.new.out ≡ old.window.len = search rules in
    let here : w ≡ window c.args.picture.now c.args.x c.args.y old.n =
    c.as_slice.ensures.value ∙ with_items_is old.window c.window_into.new.out long ∙ c.window_into.ensures.exact in
    c.raise_all.ensures.raised
    ∙ ap (fold recount old.tally) (noted_places old.tally c.deref.result.now (first_images old.n old.symmetry w) are)
    ∙ ap (λ v. fold recount old.tally (first_images old.n old.symmetry v)) here
