use Rattle.std.proofs.Common.{◌∷◌, []}
use Rattle.std.proofs.lemmas.Result.{on_err_weaker}
use Rattle.wfc_domains.specs.Store.{StoreView}
use Rattle.wfc_proof.specs.Journal.{JournalView, IsCutOff}
use Rattle.wfc_proof.specs.declared.Line.TheVariants.{Try}
use Rattle.wfc_proof.proofs.CallerLemmas.{cut_off_behind}
use Rattle.wfc_search.specs.Telling.{level_lines}
use Rattle.wfc_search.proofs.telling.tell_turn.Goals as goal

pub returns-in_ok-line-in-Chose-clause-failed :
    goal.returns-in_ok-line-in-Chose-clause-failed
returns-in_ok-line-in-Chose-clause-failed g c =
    let store : StoreView = g.S.Store.view c.args.store.now in
    let old : JournalView = g.J.Journal.seen c.args.journal.now in
    let mid : JournalView = g.J.Journal.seen c.line.new.self in
    let new : JournalView = g.J.Journal.seen c.tell_level.new.journal in
    rw c.in-Chose.is
    (on_err_weaker c.tell_level.result
    (λ (cut : IsCutOff mid new (level_lines store)). cut_off_behind old mid new (Try c.in-Chose.cell c.in-Chose.value ∷ []) (level_lines store) c.in_ok-line-in-Chose.ensures.ok cut)
    c.tell_level.ensures.failed)
