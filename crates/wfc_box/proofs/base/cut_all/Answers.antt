use Rattle.std.proofs.Common.{List, [], ◌∷◌, ◌++◌, take, sym, subst, ap, ◌∙◌, arith}
use Rattle.std.proofs.lemmas.List.{take_more}
use Rattle.wfc_places.specs.Flags.{HasFlags}
use Rattle.wfc_box.specs.Boxes.{LayerPin, places_in}
use Rattle.wfc_box.specs.BoxProblem.{meets_in_box}
use Rattle.wfc_box.proofs.FlagLemmas.{met_more}
use Rattle.wfc_box.proofs.base.cut_all.Goals as goal

pub loop-mark-preserved : goal.loop-mark-preserved
loop-mark-preserved c =
    let marks = c.args.marks.now in
    let k = c.loop-mark.mark-index in
    let pin = c.mark-item.result in
    subst (λ (ps : List LayerPin). HasFlags c.args.count (places_in c.args.frame) c.cut_by_mark.new.flags (meets_in_box c.args.frame ps))
    (sym (take_more marks k pin (omega arith) ∙ ap (λ (p : LayerPin). take k marks ++ p ∷ []) (sym c.mark-item.is)))
    (met_more c.args.count c.args.frame c.loop-mark.flags c.cut_by_mark.new.flags (take k marks) pin c.loop-mark.invariant c.cut_by_mark.ensures.cut)
