use Rattle.std.proofs.Common.{refl, ap, sym, false, get_or, ◌++◌, ◌∷◌, [], ◌∙◌, List}
use Rattle.wfc_model.specs.Legal.{Pin}
use Rattle.wfc_explain.specs.KeptLines.{kept_of}
use Rattle.wfc_explain.proofs.KeptLemmas.{kept_more}
use Rattle.wfc_explain.proofs.kept.kept_marks.Goals as goal

pub loop-at-preserved : goal.loop-at-preserved
loop-at-preserved c =
    let stays = get_or c.args.keep.now c.loop-at.at false in
    c.in_ok-push_kept.ensures.pushed ∙ ap (λ (xs : List Pin). xs ++ kept_of (stays ∷ []) (c.index-marks-at.result ∷ [])) c.loop-at.invariant
    ∙ sym (kept_more c.args.keep.now c.args.marks.now c.loop-at.at stays c.index-marks-at.result c.loop-at-test.true c.requires.each_line refl c.index-marks-at.is)
