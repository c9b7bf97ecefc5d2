-- How the code of `grow` ends.
use Rattle.std.proofs.Common.{Err, List, None, Ok, Option, Result, Some, ap, false, inl, inr, refl, subst, sym, take, true, ℕ, ◌++◌, ◌∙◌, ◌≡◌}
use Rattle.wfc_blocks.proofs.CallerLemmas.{grown_split}
use Rattle.wfc_blocks.specs.Grown.{growable_of, grown_of, shown_growth, terms_with}
use Rattle.wfc_blocks.specs.Growth.{growth_of}
use Rattle.wfc_blocks.specs.StuckView.{StuckView}
use Rattle.wfc_blocks.specs.declared.grown.GrowFault.{GrowFault}
use Rattle.wfc_blocks.specs.declared.grown.GrowFault.TheVariants as faults
use Rattle.wfc_blocks.specs.declared.grown.Grown.{Grown}
use Rattle.wfc_blocks.specs.declared.grown.Grown.TheVariants as grown
use Rattle.wfc_choose.specs.Pick.{Rule}
use Rattle.wfc_choose.specs.declared.RuleKind.{RuleKind}
use Rattle.wfc_grow_command.proofs.GrowGivenLemmas.{behind_growable}
use Rattle.wfc_grow_command.specs.GrowAnswer.{AnswersGrown, GrowsBy, IsGrowthBy, stuck_run_text, stuck_start, stuck_verdict}
use Rattle.wfc_grow_command.specs.GrowCommand.{GrowAnswers, grow_command}
use Rattle.wfc_grow_command.specs.GrowTask.{GrowTask, area_asked, grow_plan, grow_refusal, growable, grown_plan, read_plan}
use Rattle.wfc_grow_command.specs.Growing.{IsStuckRun, PutsGrown}
use Rattle.wfc_grow_command.specs.StuckText.{block_writing, stuck_text}
use Rattle.wfc_model.specs.Legal.{Pin}
use Rattle.wfc_model.specs.Raster.{Raster}
use Rattle.wfc_outside.proofs.CallerLemmas.{after_bytes-append, fault_behind, fault_on, gives_fault}
use Rattle.wfc_outside.specs.Folder.{FolderView}
use Rattle.wfc_outside.specs.Gives.{Gives, result_map}
use Rattle.wfc_outside.specs.Sink.{IsFault, IsFaultAfterFront, SinkView, after_bytes, after_finish}
use Rattle.wfc_overlap.specs.Built.{texts_of}
use Rattle.wfc_plan.proofs.CallerLemmas.{goes_done, goes_on, goes_out, ok_refused, step_on, step_out}
use Rattle.wfc_plan.specs.Fault.{status_of}
use Rattle.wfc_plan.specs.Plan.{Goes, or_refuse}
use Rattle.wfc_plan.specs.declared.fault.Fault.{Fault}
use Rattle.wfc_plan.specs.declared.fault.Fault.TheVariants.{Refused}
use Rattle.wfc_plan.specs.declared.fault.Refusal.{Refusal}
use Rattle.wfc_problem.specs.Network.{IsProblem}
use Rattle.wfc_proof.specs.declared.Line.{Line}
use Rattle.wfc_render.specs.Map.{map_text}
use Rattle.wfc_reply.proofs.CallerLemmas.{ends_by, put_exhausted, put_none, store_problem}
use Rattle.wfc_reply.specs.Choosers.{first_rule, kinds_of}
use Rattle.wfc_reply.specs.Ending.{EndsAs, EndsPut, Leaves}
use Rattle.wfc_reply.specs.Ends.{Replies}
use Rattle.wfc_reply.specs.Putting.{PutsBehind}
use Rattle.wfc_reply.specs.Reply.{Answered, Reply, done_with}
use Rattle.wfc_reply.specs.RunText.{IsToldBy, writing_text}
use Rattle.wfc_reply.specs.declared.putting.RunWriting.{RunWriting}
use Rattle.wfc_reply.specs.declared.reply.Stop.{Stop}
use Rattle.wfc_reply.specs.declared.reply.Stop.TheVariants.{Cut, Unanswered}
use Rattle.wfc_reply.specs.declared.reply.CommandVerdict.{CommandVerdict}
use Rattle.wfc_reply.specs.declared.reply.CommandVerdict.TheVariants as verdict
use Rattle.wfc_search.proofs.CallerLemmas.{between_start, from_computed}
use Rattle.wfc_search.proofs.Counts.{run_counts}
use Rattle.wfc_search.specs.Run.{State, last_of}
use Rattle.wfc_search.specs.declared.Outcome.{Outcome}
use Rattle.wfc_search.specs.declared.Outcome.TheVariants as outcome
use Rattle.wfc_words.specs.RequestView.{RequestView}

-- ---- the plan, and what follows what was read

pub grow_none : (rules : List Rule) (asked : RequestView) (kinds : List RuleKind) (before after : FolderView) (sink : SinkView) (fault : Fault) → kinds ≡ kinds_of rules → Goes (read_plan kinds asked) before after (Err fault)
    → EndsAs grow_command rules asked before after sink sink (Err (Unanswered fault))
grow_none rules asked kinds before after sink fault same goes =
    put_none (grow_plan (kinds_of rules) asked) (GrowAnswers rules asked) before after sink fault
    (subst (λ (ks : List RuleKind). let end : Result GrowTask Fault = Err fault in Goes (grow_plan ks asked) before after end) same (goes_out (read_plan kinds asked) (grown_plan asked) before after fault goes))

pub grow_on : (rules : List Rule) (asked : RequestView) (kinds : List RuleKind) (before after : FolderView) (old new : SinkView) (task : GrowTask) (ended : Result CommandVerdict Stop) → kinds ≡ kinds_of rules
    → Goes (read_plan kinds asked) before after (Ok task) → EndsPut (grown_plan asked task) (GrowAnswers rules asked) after after old new ended → EndsAs grow_command rules asked before after old new ended
grow_on rules asked kinds before after old new task ended same goes rest = record {
  reply = rest.reply;
  ends = record {
    ended = rest.ends.ended;
    goes = subst (λ (ks : List RuleKind). Goes (grow_plan ks asked) before after rest.ends.ended) same (goes_on (read_plan kinds asked) (grown_plan asked) before after after task rest.ends.ended goes rest.ends.goes);
    replied = rest.ends.replied;
  };
  leaves = rest.leaves;
}

-- the first rule is the one that it goes by
pub by_first : (rules : List Rule) (asked : RequestView) (kind : RuleKind) (task : GrowTask) (rule : Rule) (folder : FolderView) (old new : SinkView) (ended : Result CommandVerdict Stop) → first_rule kind rules ≡ Some rule → kind ≡ asked.rule
    → EndsPut (grown_plan asked task) (GrowsBy (Some rule) asked) folder folder old new ended → EndsPut (grown_plan asked task) (GrowAnswers rules asked) folder folder old new ended
by_first rules asked kind task rule folder old new ended first of_kind ends =
    subst (λ (r : Option Rule). EndsPut (grown_plan asked task) (GrowsBy r asked) folder folder old new ended) (sym (ap (λ (k : RuleKind). first_rule k rules) (sym of_kind) ∙ first)) ends

-- ---- growth

-- where it came to something, its pins are known
pub grown_goes : (asked : RequestView) (task : GrowTask) (rule : Rule) (made : Grown) (folder : FolderView) → IsGrowthBy asked task rule made → Goes (grown_plan asked task) folder folder (Ok task)
grown_goes asked task rule made folder grows =
    by_pins (growable_of task.patterns task.palette (area_asked asked) task.lines) refl
    (sym (grown_split task.patterns task.palette (area_asked asked) task.lines rule asked.budget asked.seed) ∙ grows)
  where
    shown : List Pin → Grown
    shown pins = shown_growth (texts_of task.palette) task.lines (area_asked asked) (growth_of (area_asked asked) (terms_with task.patterns rule asked.budget asked.seed pins))

    by_pins : (pins : Result (List Pin) GrowFault) → growable_of task.patterns task.palette (area_asked asked) task.lines ≡ pins → result_map shown pins ≡ Ok made → Goes (grown_plan asked task) folder folder (Ok task)
    by_pins (Ok pins) is e =
        step_on (growable asked task) (behind_growable task) folder folder pins (Ok task)
        (inl (sym (ok_refused grow_refusal (growable_of task.patterns task.palette (area_asked asked) task.lines) pins is))) goes_done
    by_pins (Err fault) is e = absurd (cc (e))

-- and its text was put
pub ends_grown : (asked : RequestView) (task : GrowTask) (rule : Rule) (made : Grown) (folder : FolderView) (old new : SinkView) (ended : Result CommandVerdict Stop) → IsGrowthBy asked task rule made → PutsGrown rule asked task made old new ended
    → EndsPut (grown_plan asked task) (GrowsBy (Some rule) asked) folder folder old new ended
ends_grown asked task rule made folder old new ended grows puts = by_reply puts.reply puts.replies puts.leaves
  where
    goes : Goes (grown_plan asked task) folder folder (Ok task)
    goes = grown_goes asked task rule made folder grows

    by_reply : (reply : Reply) → Replies (AnswersGrown rule asked task) made reply → Leaves reply old new ended → EndsPut (grown_plan asked task) (GrowsBy (Some rule) asked) folder folder old new ended
    by_reply (Ok answered) replies leaves = record {
      reply = Ok answered;
      ends = ends_by (grown_plan asked task) (GrowsBy (Some rule) asked) folder folder (Ok task) (Ok answered) goes (made, grows, replies);
      leaves = leaves;
    }
    by_reply (Err fault) replies leaves = record {
      reply = Err fault;
      ends = ends_by (grown_plan asked task) (GrowsBy (Some rule) asked) folder folder (Ok task) (Err fault) goes replies;
      leaves = leaves;
    }

-- it was refused, or memory ran out
pub ends_refused : (asked : RequestView) (task : GrowTask) (rule : Rule) (fault : GrowFault) (folder : FolderView) (sink : SinkView)
    → Gives faults.NoMemory (λ (made : Grown). made) (Err fault) (grown_of task.patterns task.palette (area_asked asked) task.lines rule asked.budget asked.seed)
    → EndsPut (grown_plan asked task) (GrowsBy (Some rule) asked) folder folder sink sink (Err (Unanswered (Refused (grow_refusal fault))))
ends_refused asked task rule fault folder sink gives =
    elim (gives_fault faults.NoMemory (λ (made : Grown). made) fault (grown_of task.patterns task.palette (area_asked asked) task.lines rule asked.budget asked.seed) gives) [
      | inl refused ↦
          by_pins (growable_of task.patterns task.palette (area_asked asked) task.lines) refl
          (sym (grown_split task.patterns task.palette (area_asked asked) task.lines rule asked.budget asked.seed) ∙ refused)
      | inr short ↦
          put_exhausted (grown_plan asked task) (GrowsBy (Some rule) asked) folder sink (Refused (grow_refusal fault)) (ap (λ (f : GrowFault). status_of (Refused (grow_refusal f))) short)
    ]
  where
    shown : List Pin → Grown
    shown pins = shown_growth (texts_of task.palette) task.lines (area_asked asked) (growth_of (area_asked asked) (terms_with task.patterns rule asked.budget asked.seed pins))

    by_pins : (pins : Result (List Pin) GrowFault) → growable_of task.patterns task.palette (area_asked asked) task.lines ≡ pins → result_map shown pins ≡ Err fault
        → EndsPut (grown_plan asked task) (GrowsBy (Some rule) asked) folder folder sink sink (Err (Unanswered (Refused (grow_refusal fault))))
    by_pins (Ok pins) is e = absurd (cc (e))
    by_pins (Err why) is e =
        let same : why ≡ fault = cc (e) in
        let wanted : growable asked task ≡ Err (grow_refusal fault) =
        ap (or_refuse grow_refusal) is ∙ ap (λ (f : GrowFault). let end : Result (List Pin) Refusal = Err (grow_refusal f) in end) same in
        put_none (grown_plan asked task) (GrowsBy (Some rule) asked) folder folder sink (Refused (grow_refusal fault))
        (step_out (growable asked task) (behind_growable task) folder (grow_refusal fault) (inl (sym wanted)))

-- ---- maps

module _ (rule : Rule) (asked : RequestView) (task : GrowTask) where
  pub map_short : (made : Grown) (sink : SinkView) (fault : Fault) → status_of fault ≡ 6 → PutsGrown rule asked task made sink sink (Err (Unanswered fault))
  map_short made sink fault six = record { reply = Err fault; replies = six; leaves = (refl, refl) }

  pub map_done : (m : Raster) (old mid new : SinkView) (text : List ℕ) → text ≡ map_text task.layout task.palette m → mid ≡ after_bytes old text → new ≡ after_finish mid → PutsGrown rule asked task (grown.Map m) old new (Ok verdict.Done)
  map_done m old mid new text is put finished = record {
    reply = Ok (done_with (map_text task.layout task.palette m));
    replies = refl;
    leaves = (refl, finished ∙ ap after_finish (put ∙ ap (after_bytes old) is));
  }

  pub map_cut : (m : Raster) (old new : SinkView) (text : List ℕ) → text ≡ map_text task.layout task.palette m → IsFaultAfterFront old new text → PutsGrown rule asked task (grown.Map m) old new (Err Cut)
  map_cut m old new text is fault = record {
    reply = Ok (done_with (map_text task.layout task.palette m));
    replies = refl;
    leaves = subst (IsFaultAfterFront old new) is fault;
  }

  pub map_spent : (sink : SinkView) → PutsGrown rule asked task grown.Spent sink sink (Ok (verdict.Spent asked.budget))
  map_spent sink = record { reply = Ok (record { verdict = verdict.Spent asked.budget; text = None; whole = true }); replies = refl; leaves = (refl, refl) }

  -- ---- stuck blocks

  module _ (stuck : StuckView) (run : IsStuckRun rule asked task stuck) where
    abbrev writing : RunWriting
    writing = block_writing asked stuck.block

    -- the run that is told ends in no map
    told_none : (o : Outcome) (lines : List Line) → IsToldBy rule asked.budget run.P (stuck_start asked stuck) o lines → outcome.NoMap ≡ o
    told_none o lines told =
        let begin = stuck_start asked stuck in
        let problem : IsProblem run.P = store_problem run.P begin told.first told.opened in
        let counts = run_counts run.P rule asked.budget begin told.first o lines refl told.opened told.tells in
        let ends = from_computed run.P problem rule asked.budget begin counts.later o (between_start run.P asked.budget begin.words) counts.run in
        let both : ◌≡◌ {A = Option (Outcome × State)} (Some (outcome.NoMap, run.ends.0)) (Some (o, last_of begin counts.later)) = sym run.ends.1 ∙ ends in
        let pairs : (outcome.NoMap, run.ends.0) ≡ (o, last_of begin counts.later) = cc (both) in
        ap (λ (p : Outcome × State). p.0) pairs

    abbrev whole_answer : (lines : List Line) → Answered
    whole_answer lines = record { verdict = stuck_verdict stuck; text = Some (stuck_run_text asked stuck run.P lines); whole = true }

    -- the block, its pins and its run, all of them
    pub stuck_done : (o : Outcome) (old mid new : SinkView) → PutsBehind (stuck_text stuck) rule writing run.P old mid (Ok o) → new ≡ after_finish mid → PutsGrown rule asked task (grown.Stuck stuck) old new (Ok (stuck_verdict stuck))
    stuck_done o old mid new put finished =
        let lines = put.puts.lines in
        let told = subst (λ (p : Outcome). IsToldBy rule asked.budget run.P (stuck_start asked stuck) p lines) (sym (told_none o lines put.puts.told)) put.puts.told in
        record {
          reply = Ok (whole_answer lines);
          replies = inl (record { P = run.P; problem = run.problem; lines = lines; told = told; is = refl });
          leaves = (
            refl,
            finished
                ∙ ap after_finish
                (put.puts.put ∙ ap (λ (s : SinkView). after_bytes s (writing_text writing run.P lines)) put.put ∙ after_bytes-append old (stuck_text stuck) (writing_text writing run.P lines)),
          );
        }

    -- or without an end
    pub stuck_unfinished : (o : Outcome) (old mid new : SinkView) → PutsBehind (stuck_text stuck) rule writing run.P old mid (Ok o) → IsFault mid new → PutsGrown rule asked task (grown.Stuck stuck) old new (Err Cut)
    stuck_unfinished o old mid new put fault =
        let lines = put.puts.lines in
        let told = subst (λ (p : Outcome). IsToldBy rule asked.budget run.P (stuck_start asked stuck) p lines) (sym (told_none o lines put.puts.told)) put.puts.told in
        record {
          reply = Ok (whole_answer lines);
          replies = inl (record { P = run.P; problem = run.problem; lines = lines; told = told; is = refl });
          leaves = fault_behind old mid new (stuck_run_text asked stuck run.P lines)
              (put.puts.put ∙ ap (λ (s : SinkView). after_bytes s (writing_text writing run.P lines)) put.put ∙ after_bytes-append old (stuck_text stuck) (writing_text writing run.P lines)) fault;
        }

    -- or a front of them, or memory ran out before
    pub stuck_stopped : (stop : Stop) (old new : SinkView) → PutsBehind (stuck_text stuck) rule writing run.P old new (Err stop) → PutsGrown rule asked task (grown.Stuck stuck) old new (Err stop)
    stuck_stopped (Unanswered fault) old new short =
        subst (λ (n : SinkView). PutsGrown rule asked task (grown.Stuck stuck) old n (Err (Unanswered fault))) (sym short.1) (map_short (grown.Stuck stuck) old fault short.0)
    stuck_stopped Cut old new (inl fault) = record {
      reply = Ok (record { verdict = stuck_verdict stuck; text = Some (stuck_text stuck); whole = false });
      replies = inr (inr (record { front = refl; text = refl }));
      leaves = fault;
    }
    stuck_stopped Cut old new (inr behind) =
        let cuts = behind.cuts in
        let some : List ℕ = take cuts.bytes (writing_text writing run.P (take cuts.count cuts.lines)) in
        record {
          reply = Ok (record { verdict = stuck_verdict stuck; text = Some (stuck_text stuck ++ some); whole = false });
          replies = inr (inl (record {
            P = run.P;
            problem = run.problem;
            lines = cuts.lines;
            begun = cuts.begun;
            count = cuts.count;
            within = cuts.within;
            bytes = cuts.bytes;
            broken = cuts.broken;
            front = refl;
            text = refl;
          }));
          leaves = fault_on old behind.mid new (stuck_text stuck) some behind.put cuts.fault;
        }
