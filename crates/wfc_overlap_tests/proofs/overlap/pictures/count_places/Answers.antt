use Rattle.std.proofs.Common.{◌*◌, sym, ap, ◌∙◌}
use Rattle.wfc_model.specs.Window.{starts}
use Rattle.wfc_model.proofs.CallerLemmas.{length-places}
use Rattle.wfc_overlap_tests.proofs.overlap.pictures.count_places.Goals as goal

pub returns : goal.returns
returns c =
    let a = c.args in
    record {
      value = ap (λ rows. rows * c.count_starts-2.result) c.count_starts.ensures.value ∙ ap (λ columns. starts a.height a.n a.wrap * columns) c.count_starts-2.ensures.value ∙ sym (length-places a.width a.height a.n a.wrap);
    }
