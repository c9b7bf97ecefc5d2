use Rattle.std.proofs.Common.{◌≡◌, ℕ, ◌*◌, ◌++◌, Bool, true, false, List, [], length, take, drop, refl, sym, subst, ap, ◌∙◌, arith}
use Rattle.std.specs.Prelude.{replicate}
use Rattle.std.proofs.lemmas.Grind.{common_steps}
use Rattle.std.proofs.lemmas.List.{length-replicate, get_or-replicate}
use Rattle.wfc_box.specs.Boxes.{places_in}
use Rattle.wfc_box.specs.BoxProblem.{meets_in_box}
use Rattle.wfc_places.specs.Flags.{HasFlags}
use Rattle.wfc_places.proofs.CallerLemmas.{all_flags}
use Rattle.wfc_box.proofs.FlagLemmas.{met_all}
use Rattle.wfc_box.proofs.base.base.Goals as goal

pub cut_all-requires : goal.cut_all-requires
cut_all-requires c =
    let V = c.variants-count.result in
    let many = c.places.result * V in
    let set : c.deref_mut.result.now ≡ replicate many true = c.deref_mut.ensures.value ∙ c.in_ok-flags.ensures.value in
    let long : length (replicate many true) ≡ places_in c.args.frame * V = length-replicate many true ∙ ap (λ k. k * V) c.places.ensures.value in
    record {
      frame = c.requires.frame;
      few_cells = c.requires.few_cells;
      inside = c.requires.inside;
      all =
          subst (λ (fs : List Bool). HasFlags V (places_in c.args.frame) fs (meets_in_box c.args.frame [])) (sym set)
          (all_flags V (places_in c.args.frame) (replicate many true) (meets_in_box c.args.frame []) long (λ k inside. get_or-replicate many k true false (omega (arith, length-replicate many true))) (λ k v. refl));
    }

pub returns : goal.returns
returns c =
    let new = c.cut_all.new.flags in
    let whole : take c.in_ok-flags.flags.len (new ++ drop (length new) c.in_ok-flags.flags.items) ≡ new = grind (arith, common_steps) in
    let met = subst (λ (n : ℕ). HasFlags n (places_in c.args.frame) new (meets_in_box c.args.frame c.args.marks.now)) c.variants-count.ensures.value c.cut_all.ensures.met in
    record { value = whole ∙ met_all c.args.tiles.now c.args.frame new c.args.marks.now met }
