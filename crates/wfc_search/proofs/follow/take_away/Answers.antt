use Rattle.std.proofs.Common.{sym, ◌∙◌, ap, length}
use Rattle.wfc_choose.specs.Told.{Told}
use Rattle.wfc_domains.specs.Store.{StoreView, left_of}
use Rattle.wfc_problem.specs.Network.{Network}
use Rattle.wfc_problem.specs.Sizes.{sizes_of}
use Rattle.wfc_problem.proofs.CallerLemmas.{length-sizes_of}
use Rattle.wfc_search.proofs.Stores.{left_undone}
use Rattle.wfc_search.proofs.follow.take_away.Goals as goal

pub tell_all-requires-clause-cells : goal.tell_all-requires-clause-cells
tell_all-requires-clause-cells g c =
    let old : StoreView = g.S.Store.view c.args.store.now in
    ap length c.requires.keeps.sizes ∙ length-sizes_of old.problem (left_of old) ∙ ap (λ (P : Network). P.cells) (sym c.undo-in_default.ensures.undone.problem)

pub returns-in-Some-clause-keeps : goal.returns-in-Some-clause-keeps
returns-in-Some-clause-keeps g c =
    let old : StoreView = g.S.Store.view c.args.store.now in
    let new : StoreView = g.S.Store.view c.undo.new.self in
    record {
      sound = c.undo.ensures.sound;
      sizes = ap (λ (t : Told). t.sizes) c.tell_restored.ensures.told
          ∙ ap (sizes_of old.problem) (sym (left_undone old new c.requires.keeps.sound c.undo.ensures.sound c.requires.some c.undo.ensures.undone.alive c.undo.ensures.undone.problem c.undo.ensures.undone.standing))
          ∙ ap (λ (P : Network). sizes_of P (left_of new)) (sym c.undo.ensures.undone.problem);
    }
