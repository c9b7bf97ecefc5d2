-- What a call promises of `grow`.
use Rattle.std.proofs.Common.{List, None, Option, Some, [], ap, append-nil, append_assoc, drop, inl, inr, refl, subst, sym, take, take-append-drop, ℕ, ◌++◌, ◌∙◌, ◌≡◌, ◌⊎◌}
use Rattle.wfc_blocks.specs.Growth.{seed_of_block}
use Rattle.wfc_blocks.specs.StuckView.{StuckView}
use Rattle.wfc_blocks.specs.declared.grown.Grown.{Grown}
use Rattle.wfc_blocks.specs.declared.grown.Grown.TheVariants as grown
use Rattle.wfc_choose.specs.Pick.{Rule}
use Rattle.wfc_grow_command.specs.GrowAnswer.{AnswersGrown, StuckCut, StuckFront, StuckWhole, stuck_start}
use Rattle.wfc_grow_command.specs.GrowClaims.{GrowPromise, GrowWork, GrowsTo, IsGrowText, IsTextOfGrown, text_of_grown}
use Rattle.wfc_grow_command.specs.GrowCommand.{grow_command}
use Rattle.wfc_grow_command.specs.StuckText.{block_writing, stuck_text}
use Rattle.wfc_lines.specs.Grow.{text_of_stuck}
use Rattle.wfc_outside.specs.Folder.{File}
use Rattle.wfc_reply.proofs.CallerLemmas.{AnswersOnly, CameTo, EndsSo, IsEnding, as_asked, as_no, as_spent, cuts_text, front_taken, front_text, store_problem}
use Rattle.wfc_reply.specs.Asking.{IsCommand}
use Rattle.wfc_reply.specs.Call.{Call}
use Rattle.wfc_reply.specs.CutClaims.{CutsText}
use Rattle.wfc_reply.specs.Reply.{Answered}
use Rattle.wfc_reply.specs.RunText.{writing_text}
use Rattle.wfc_runs.specs.Words.{words_of_seed}
use Rattle.wfc_search.specs.declared.Outcome.TheVariants as outcome
use Rattle.wfc_words.specs.RequestView.{RequestView}
use Rattle.wfc_words.specs.declared.kinds.CommandKind.TheVariants as commands
use Rattle.wfc_grow_command.proofs.GrowWorkLemmas.{has_grown, is_as_grown, writes_grown_map}
use Rattle.wfc_grow_command.proofs.GrowStuckLemmas.{is_spent_below, stuck_proof, writes_stuck_block}

-- ---- what is written

-- the text of an answer to a stuck block
stuck_front : {rules : List Rule} {files : List File} (asked : RequestView) (work : GrowWork rules asked files) (stuck : StuckView) (answered : Answered) (text : List ℕ) → answered.text ≡ Some text
    → StuckWhole work.rule asked work.task stuck answered ⊎ (StuckFront work.rule asked work.task stuck answered ⊎ StuckCut stuck answered) → IsTextOfGrown asked work (grown.Stuck stuck) text
stuck_front asked work stuck answered text is (inl whole) =
    let run : List ℕ = writing_text (block_writing asked stuck.block) whole.P whole.lines in
    let both : Some text ≡ Some (stuck_text stuck ++ run) = sym is ∙ ap (λ (a : Answered). a.text) whole.is in
    inr (
      run,
      record {
        P = whole.P;
        problem = whole.problem;
        as_run = inl (record { lines = whole.lines; told = whole.told; is = refl });
        front = record { outcome = outcome.NoMap; text = run; is = stuck_proof asked work stuck whole.P whole.lines whole.told; more = []; whole = sym (append-nil run) };
      },
      cc (both),
    )
stuck_front asked work stuck answered text is (inr (inl front)) =
    let begin = stuck_start asked stuck in
    let writing = block_writing asked stuck.block in
    let told : List ℕ = writing_text writing front.P (take front.count front.lines) in
    let run : List ℕ = take front.bytes told in
    let rest : List ℕ = drop front.bytes told in
    let of = front_text writing front.P work.rule asked.budget (words_of_seed (seed_of_block asked.seed stuck.block)) front.lines front.count (store_problem front.P begin front.begun.first front.begun.opened) front.begun in
    let parts : told ≡ run ++ rest = sym (take-append-drop front.bytes told) in
    let both : Some text ≡ Some (stuck_text stuck ++ run) = sym is ∙ front.text in
    inr (
      run,
      record {
        P = front.P;
        problem = front.problem;
        as_run = inr (record { lines = front.lines; begun = front.begun; count = front.count; within = front.within; end = front.bytes; broken = front.broken; is = refl });
        front = record {
          outcome = of.outcome;
          text = of.text;
          is = of.is;
          more = rest ++ of.more;
          whole = of.whole ∙ ap (λ (xs : List ℕ). xs ++ of.more) parts ∙ append_assoc run rest of.more;
        };
      },
      cc (both),
    )
stuck_front asked work stuck answered text is (inr (inr front)) = let both : Some text ≡ Some (stuck_text stuck) = sym is ∙ front.text in inl (cc (both))

tells_grown : (call : Call) → AnswersOnly commands.Grow grow_command (IsGrowText call.rules) call
tells_grown call asked files is answered has text same =
    let grew = has_grown call.rules asked files answered has in (grew.work, grew.made, grew.grows, by_made grew.work grew.made grew.answers)
  where
    by_made : (work : GrowWork call.rules asked files) (made : Grown) → AnswersGrown work.rule asked work.task made answered → IsTextOfGrown asked work made text
    by_made work (grown.Map m) answers =
        let both : Some text ≡ Some (text_of_grown asked work m) = sym same ∙ ap (λ (a : Answered). a.text) answers in cc (both)
    by_made work (grown.Stuck stuck) answers = stuck_front asked work stuck answered text same answers
    by_made work grown.Spent answers =
        let both : ◌≡◌ {A = Option (List ℕ)} (Some text) None = sym same ∙ ap (λ (a : Answered). a.text) answers in absurd (cc (both))

pub grow_front : (call : Call) (asked : RequestView) (files : List File) → IsCommand commands.Grow call asked files → CameTo grow_command call asked files → CutsText (IsGrowText call.rules) call asked files
grow_front call = cuts_text commands.Grow grow_command (IsGrowText call.rules) call (tells_grown call)

-- ---- how it ends

pub grow_ends : EndsSo commands.Grow grow_command
grow_ends call asked files answered is has takes =
    let grew = has_grown call.rules asked files answered has in by_made grew.work grew.made grew.grows grew.answers
  where
    by_stuck : (work : GrowWork call.rules asked files) (stuck : StuckView) → GrowsTo asked work (grown.Stuck stuck)
        → StuckWhole work.rule asked work.task stuck answered ⊎ (StuckFront work.rule asked work.task stuck answered ⊎ StuckCut stuck answered) → IsEnding grow_command call.rules asked files answered.verdict
    by_stuck work stuck grows (inl whole) =
        subst (λ (a : Answered). IsEnding grow_command call.rules asked files a.verdict) (sym whole.is) (as_no (text_of_stuck stuck.block.x stuck.block.y) refl (inr refl) (work, stuck, grows, refl))
    by_stuck work stuck grows (inr (inl front)) = absurd (front_taken answered.whole answered.text call.before.out call.after.out front.front takes)
    by_stuck work stuck grows (inr (inr front)) = absurd (front_taken answered.whole answered.text call.before.out call.after.out front.front takes)

    by_made : (work : GrowWork call.rules asked files) (made : Grown) → GrowsTo asked work made → AnswersGrown work.rule asked work.task made answered → IsEnding grow_command call.rules asked files answered.verdict
    by_made work (grown.Map m) grows answers = subst (λ (a : Answered). IsEnding grow_command call.rules asked files a.verdict) (sym answers) (as_asked refl)
    by_made work (grown.Stuck stuck) grows answers = by_stuck work stuck grows answers
    by_made work grown.Spent grows answers = subst (λ (a : Answered). IsEnding grow_command call.rules asked files a.verdict) (sym answers) (as_spent refl)

-- all that `grow` promises
pub grow_promise : (call : Call) (asked : RequestView) (files : List File) → IsCommand commands.Grow call asked files → CameTo grow_command call asked files → GrowPromise call asked files
grow_promise call asked files is came = record {
  legal = writes_grown_map call asked files is came;
  stuck = writes_stuck_block call asked files is came;
  as_grown = is_as_grown call asked files came;
  spent = is_spent_below call asked files is came;
  front = grow_front call asked files is came;
}
