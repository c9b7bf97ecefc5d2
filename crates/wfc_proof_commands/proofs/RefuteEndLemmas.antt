-- How the code of `refute` ends.
use Rattle.std.proofs.Common.{Err, List, Ok, Option, Result, Some, ap, false, inl, inr, refl, subst, sym, take, true, ℕ, ◌∙◌, ◌≡◌}
use Rattle.wfc_choose.specs.Pick.{Rule}
use Rattle.wfc_choose.specs.declared.RuleKind.{RuleKind}
use Rattle.wfc_outside.proofs.CallerLemmas.{fault_behind}
use Rattle.wfc_outside.specs.Folder.{FolderView}
use Rattle.wfc_outside.specs.Sink.{IsFault, SinkView, after_finish}
use Rattle.wfc_plan.specs.Fault.{status_of}
use Rattle.wfc_plan.specs.Plan.{Goes}
use Rattle.wfc_plan.specs.declared.fault.Fault.{Fault}
use Rattle.wfc_problem.specs.Network.{Network}
use Rattle.wfc_proof_commands.specs.ProofKind.{ProofKind}
use Rattle.wfc_proof_commands.specs.RefuteCommand.{RefuteAnswers, refutes}
use Rattle.wfc_proof_commands.specs.RefuteTask.{RefuteTask, refute_plan}
use Rattle.wfc_proof_commands.specs.RefuteTask as tasks
use Rattle.wfc_proof_commands.specs.Refuting.{RefutesBy, refutation_text, writing_of}
use Rattle.wfc_reply.proofs.CallerLemmas.{put_cut, put_none, put_short, put_whole}
use Rattle.wfc_reply.specs.Choosers.{first_rule, kinds_of}
use Rattle.wfc_reply.specs.Ending.{EndsAs}
use Rattle.wfc_reply.specs.Outcomes.{refute_verdict}
use Rattle.wfc_reply.specs.Putting.{PutsWriting, PutsOrStops}
use Rattle.wfc_reply.specs.declared.putting.RunWriting.{RunWriting}
use Rattle.wfc_reply.specs.declared.reply.Stop.{Stop}
use Rattle.wfc_reply.specs.declared.reply.Stop.TheVariants.{Cut, Unanswered}
use Rattle.wfc_reply.specs.declared.reply.CommandVerdict.{CommandVerdict}
use Rattle.wfc_reply.specs.declared.reply.CommandVerdict.TheVariants as verdict
use Rattle.wfc_search.specs.declared.Outcome.{Outcome}
use Rattle.wfc_words.specs.RequestView.{RequestView}

module _ (space : ProofKind) where
  goes_by : (rules : List Rule) (asked : RequestView) (kinds : List RuleKind) (before after : FolderView) (task : RefuteTask) → kinds ≡ kinds_of rules → Goes (refute_plan space kinds asked) before after (Ok task)
      → Goes (refute_plan space (kinds_of rules) asked) before after (Ok task)
  goes_by rules asked kinds before after task same goes = subst (λ (ks : List RuleKind). Goes (refute_plan space ks asked) before after (Ok task)) same goes

  whole_text : (rules : List Rule) (asked : RequestView) (P : Network) (rule : Rule) (o : Outcome) (old mid : SinkView) → first_rule asked.rule rules ≡ Some rule → (put : PutsWriting rule (writing_of space asked) P o old mid)
      → RefuteAnswers space rules asked (tasks.refute P) (record { verdict = refute_verdict asked.budget o; text = Some (refutation_text space asked P put.lines); whole = true })
  whole_text rules asked P rule o old mid found put =
      subst (λ (r : Option Rule). RefutesBy space r asked P (record { verdict = refute_verdict asked.budget o; text = Some (refutation_text space asked P put.lines); whole = true })) (sym found)
      (inl (record { outcome = o; lines = put.lines; told = put.told; is = refl }))

  -- the plan ended with a fault
  pub refute_none : (rules : List Rule) (asked : RequestView) (kinds : List RuleKind) (before after : FolderView) (sink : SinkView) (fault : Fault) → kinds ≡ kinds_of rules
      → Goes (refute_plan space kinds asked) before after (Err fault) → EndsAs (refutes space) rules asked before after sink sink (Err (Unanswered fault))
  refute_none rules asked kinds before after sink fault same goes =
      put_none (refute_plan space (kinds_of rules) asked) (RefuteAnswers space rules asked) before after sink fault
      (subst (λ (ks : List RuleKind). let end : Result RefuteTask Fault = Err fault in Goes (refute_plan space ks asked) before after end) same goes)

  -- it came to its task, and memory ran out before the run
  pub refute_short : (rules : List Rule) (asked : RequestView) (kinds : List RuleKind) (before after : FolderView) (sink : SinkView) (P : Network) (fault : Fault) → kinds ≡ kinds_of rules
      → Goes (refute_plan space kinds asked) before after (Ok (tasks.refute P)) → status_of fault ≡ 6 → EndsAs (refutes space) rules asked before after sink sink (Err (Unanswered fault))
  refute_short rules asked kinds before after sink P fault same goes six =
      put_short (refute_plan space (kinds_of rules) asked) (RefuteAnswers space rules asked) before after sink (tasks.refute P) fault (goes_by rules asked kinds before after (tasks.refute P) same goes) six

  -- and the putting of the run's lines stopped
  pub refute_stopped : (rules : List Rule) (asked : RequestView) (kinds : List RuleKind) (before after : FolderView) (old new : SinkView) (P : Network) (rule : Rule) (kind : RuleKind) (writing : RunWriting) (stop : Stop)
      → kinds ≡ kinds_of rules → Goes (refute_plan space kinds asked) before after (Ok (tasks.refute P)) → kind ≡ asked.rule → first_rule kind rules ≡ Some rule
      → writing ≡ writing_of space asked → PutsOrStops rule writing P old new (Err stop) → EndsAs (refutes space) rules asked before after old new (Err stop)
  refute_stopped rules asked kinds before after old new P rule kind writing stop same goes of_kind found written puts =
      by_stop stop (subst (λ (w : RunWriting). PutsOrStops rule w P old new (Err stop)) written puts)
    where
      by_stop : (stop : Stop) → PutsOrStops rule (writing_of space asked) P old new (Err stop) → EndsAs (refutes space) rules asked before after old new (Err stop)
      by_stop Cut parted =
          let text : Option (List ℕ) = Some (take parted.bytes (refutation_text space asked P (take parted.count parted.lines))) in
          put_cut (refute_plan space (kinds_of rules) asked) (RefuteAnswers space rules asked) before after old new (tasks.refute P) verdict.Done text false (goes_by rules asked kinds before after (tasks.refute P) same goes)
          (subst (λ (r : Option Rule). RefutesBy space r asked P (record { verdict = verdict.Done; text = text; whole = false })) (sym (ap (λ (k : RuleKind). first_rule k rules) (sym of_kind) ∙ found))
          (inr (record { lines = parted.lines; begun = parted.begun; count = parted.count; within = parted.within; bytes = parted.bytes; broken = parted.broken; front = refl; text = refl })))
          parted.fault
      by_stop (Unanswered fault) short =
          subst (λ (n : SinkView). EndsAs (refutes space) rules asked before after old n (Err (Unanswered fault))) (sym short.1)
          (put_short (refute_plan space (kinds_of rules) asked) (RefuteAnswers space rules asked) before after old (tasks.refute P) fault (goes_by rules asked kinds before after (tasks.refute P) same goes) short.0)

  pub refute_done : (rules : List Rule) (asked : RequestView) (kinds : List RuleKind) (before after : FolderView) (old mid new : SinkView) (P : Network) (rule : Rule) (kind : RuleKind) (o : Outcome) (ended : CommandVerdict)
      → kinds ≡ kinds_of rules → Goes (refute_plan space kinds asked) before after (Ok (tasks.refute P)) → kind ≡ asked.rule → first_rule kind rules ≡ Some rule → PutsOrStops rule (writing_of space asked) P old mid (Ok o)
      → new ≡ after_finish mid → ended ≡ refute_verdict asked.budget o → EndsAs (refutes space) rules asked before after old new (Ok ended)
  refute_done rules asked kinds before after old mid new P rule kind o ended same goes of_kind found put finished ends =
      subst (λ (v : CommandVerdict). EndsAs (refutes space) rules asked before after old new (Ok v)) (sym ends)
      (put_whole (refute_plan space (kinds_of rules) asked) (RefuteAnswers space rules asked) before after old new (tasks.refute P) (refute_verdict asked.budget o) (Some (refutation_text space asked P put.lines))
      (goes_by rules asked kinds before after (tasks.refute P) same goes) (whole_text rules asked P rule o old mid (ap (λ (k : RuleKind). first_rule k rules) (sym of_kind) ∙ found) put) (finished ∙ ap after_finish put.put))

  pub refute_unfinished : (rules : List Rule) (asked : RequestView) (kinds : List RuleKind) (before after : FolderView) (old mid new : SinkView) (P : Network) (rule : Rule) (kind : RuleKind) (o : Outcome)
      → kinds ≡ kinds_of rules → Goes (refute_plan space kinds asked) before after (Ok (tasks.refute P)) → kind ≡ asked.rule → first_rule kind rules ≡ Some rule → PutsOrStops rule (writing_of space asked) P old mid (Ok o)
      → IsFault mid new → EndsAs (refutes space) rules asked before after old new (Err Cut)
  refute_unfinished rules asked kinds before after old mid new P rule kind o same goes of_kind found put fault =
      put_cut (refute_plan space (kinds_of rules) asked) (RefuteAnswers space rules asked) before after old new (tasks.refute P) (refute_verdict asked.budget o) (Some (refutation_text space asked P put.lines)) true
      (goes_by rules asked kinds before after (tasks.refute P) same goes) (whole_text rules asked P rule o old mid (ap (λ (k : RuleKind). first_rule k rules) (sym of_kind) ∙ found) put) (fault_behind old mid new (refutation_text space asked P put.lines) put.put fault)
