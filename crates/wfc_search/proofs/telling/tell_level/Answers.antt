use Rattle.std.proofs.Common.{◌≡◌, ◌++◌, ◌∷◌, [], List, ap, subst, ◌∙◌, refl}
use Rattle.std.proofs.lemmas.Result.{on_err_weaker}
use Rattle.wfc_domains.specs.Store.{StoreView, added_of}
use Rattle.wfc_log.specs.declared.Removal.{Removal}
use Rattle.wfc_log.specs.declared.Verdict.{Verdict}
use Rattle.wfc_proof.specs.Journal.{JournalView, after_lines, IsRefused, IsCutOff}
use Rattle.wfc_proof.specs.declared.Line.{Line}
use Rattle.wfc_proof.specs.declared.Line.TheVariants.{Empty}
use Rattle.wfc_proof.proofs.CallerLemmas.{cut_off_behind, refused_cut_off}
use Rattle.wfc_search.specs.Telling.{removal_lines, empty_lines}
use Rattle.wfc_search.proofs.telling.tell_level.Goals as goal
use Rattle.wfc_search.proofs.telling.tell_level.Goals.{in-Some+in_ok-tell_removals-in-Some, in-None+in_ok-tell_added-in-None}

pub returns-in-Dead-clause-failed : goal.returns-in-Dead-clause-failed
returns-in-Dead-clause-failed g c =
    let store : StoreView = g.S.Store.view c.args.store.now in
    let old : JournalView = g.J.Journal.seen c.args.journal.now in
    let mid : JournalView = g.J.Journal.seen c.match-added.journal in
    let new : JournalView = g.J.Journal.seen c.line.new.self in
    let removed : mid ≡ after_lines old (removal_lines (added_of store)) = elim c.match-added.branch [
      | in-Some+in_ok-tell_removals-in-Some w ↦
          ap g.J.Journal.seen w.journal-is ∙ w.in_ok-tell_removals-in-Some.ensures.ok ∙ ap (λ (rs : List Removal). after_lines old (removal_lines rs)) w.in-Some.ensures.some
      | in-None+in_ok-tell_added-in-None w ↦ ap g.J.Journal.seen w.journal-is ∙ w.in_ok-tell_added-in-None.ensures.ok
    ] in
    let all : removal_lines (added_of store) ++ Empty c.in-Dead.cell ∷ [] ≡ removal_lines (added_of store) ++ empty_lines store.verdict =
    ap (λ (v : Verdict). removal_lines (added_of store) ++ empty_lines v) c.in-Dead.ensures.value in
    on_err_weaker c.line.result
    (λ (refused : IsRefused mid new (Empty c.in-Dead.cell)). subst (λ (lines : List Line). IsCutOff old new lines) all
    (cut_off_behind old mid new (removal_lines (added_of store)) (Empty c.in-Dead.cell ∷ []) removed (refused_cut_off mid new (Empty c.in-Dead.cell) refl refused)))
    c.line.ensures.failed
