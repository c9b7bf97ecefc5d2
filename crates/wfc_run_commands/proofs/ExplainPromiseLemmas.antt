-- What a call promises of `explain`.
use Rattle.std.proofs.Common.{List, None, Option, Some, [], ap, arith, inl, length, refl, subst, sym, ℕ, ◌∙◌, ◌∷◌, ◌≡◌}
use Rattle.wfc_choose.specs.Pick.{Rule}
use Rattle.wfc_explain.proofs.BlameLemmas.{explained_true}
use Rattle.wfc_explain.specs.Blame.{IsTrueExplained}
use Rattle.wfc_explain.specs.KeptLines.{kept_of}
use Rattle.wfc_explain.specs.Pinned.{IsPinned, PinnedView}
use Rattle.wfc_explain.specs.Trials.{all_lines, explanation_of}
use Rattle.wfc_explain.specs.declared.explained.Explained.{Explained}
use Rattle.wfc_explain.specs.declared.explained.Explained.TheVariants as explained
use Rattle.wfc_explain.specs.declared.explained.Kept.{Kept}
use Rattle.wfc_lines.specs.Outcome.{map_exists_text}
use Rattle.wfc_model.specs.Legal.{IsLegalPicture, Pin}
use Rattle.wfc_model.specs.Raster.{Raster}
use Rattle.wfc_outside.specs.Folder.{File}
use Rattle.wfc_outside.specs.Sink.{after_bytes, after_finish}
use Rattle.wfc_problem.specs.Network.{Network}
use Rattle.wfc_reply.proofs.CallerLemmas.{AnswersOnly, CameTo, EndsSo, HasAnswered, IsEnding, as_asked, as_no, as_spent, came_with, cuts_text}
use Rattle.wfc_reply.specs.Asking.{IsCommand}
use Rattle.wfc_reply.specs.Call.{Call}
use Rattle.wfc_reply.specs.Choosers.{first_rule, kinds_of}
use Rattle.wfc_reply.specs.CutClaims.{CutsText}
use Rattle.wfc_reply.specs.Reply.{Answered, Takes, TakesWhole, verdict_status}
use Rattle.wfc_run_commands.proofs.ExplainGivenLemmas.{explain_given}
use Rattle.wfc_run_commands.proofs.ExplainMapLemmas.{IsBridgedWith, bridged_with}
use Rattle.wfc_run_commands.specs.ExplainAnswer.{answer_to, core_text, explain_answer, explain_status, explain_text, explain_verdict, asked_explanation}
use Rattle.wfc_run_commands.specs.ExplainClaims.{AreToBlame, ExplainPromise, ExplainWork, HasMapOfAll, IsAsExplained, IsCoreText, IsKeptBy, WritesCore, work_numbers, work_pinned}
use Rattle.wfc_run_commands.specs.ExplainCommand.{ExplainAnswers, explain_command}
use Rattle.wfc_run_commands.specs.ExplainGiven.{pinned_by}
use Rattle.wfc_run_commands.specs.ExplainTask.{ExplainTask}
use Rattle.wfc_runs.specs.Words.{words_of_seed}
use Rattle.wfc_task.proofs.CallerLemmas.{command_output, command_source}
use Rattle.wfc_task.specs.Maps.{IsLegal, IsLegalBy, rules_of}
use Rattle.wfc_task.specs.Posed.{PosedBy}
use Rattle.wfc_tiled.specs.Maps.{IsLegalTileMap}
use Rattle.wfc_words.proofs.RangeLemmas.{asked-in_range}
use Rattle.wfc_words.specs.RequestView.{RequestView}
use Rattle.wfc_words.specs.declared.kinds.CommandKind.TheVariants as commands
use Rattle.wfc_words.specs.declared.kinds.SourceModel.{SourceModel}
use Rattle.wfc_words.specs.declared.kinds.SourceModel.TheVariants.{Overlap, Tiles}

-- what `explain` answered
pub record HasExplained (rules : List Rule) (asked : RequestView) (files : List File) (answered : Answered) : Type 0 where
  pub work : ExplainWork rules asked files
  pub said : Explained
  pub ends : asked_explanation (first_rule asked.rule rules) asked (work_pinned asked work) ≡ Some said
  pub is : answered ≡ answer_to asked (work_numbers asked work) said

pub explain_answered : (rules : List Rule) (asked : RequestView) (files : List File) (answered : Answered) → HasAnswered explain_command rules asked files answered → HasExplained rules asked files answered
explain_answered rules asked files answered has =
    let given = explain_given (kinds_of rules) asked files has.task has.is in
    by_end (record { aim = has.task; task = given }) (asked_explanation (first_rule asked.rule rules) asked (work_pinned asked (record { aim = has.task; task = given }))) refl
    (subst (λ (task : ExplainTask). ExplainAnswers rules asked task answered) given.is has.answers)
  where
    by_end : (work : ExplainWork rules asked files) (said : Option Explained) → asked_explanation (first_rule asked.rule rules) asked (work_pinned asked work) ≡ said
        → explain_answer asked (work_numbers asked work) said ≡ Some answered → HasExplained rules asked files answered
    by_end work None ends answers = absurd (cc (answers))
    by_end work (Some said) ends answers = record { work = work; said = said; ends = ends; is = sym (cc (answers)) }

verdict_explained : (budget : ℕ) (said : Explained) → verdict_status (explain_verdict budget said) ≡ explain_status said
verdict_explained budget (explained.Core core) = refl
verdict_explained budget explained.MapExists = refl
verdict_explained budget explained.Spent = refl

pub is_as_explained : (call : Call) (asked : RequestView) (files : List File) → CameTo explain_command call asked files → IsAsExplained call asked files
is_as_explained call asked files came low =
    let with = came_with explain_command call asked files came low in
    let said = explain_answered call.rules asked files with.answered with.has in (
      said.work,
      said.said,
      said.ends,
      with.same_status ∙ ap (λ (a : Answered). verdict_status a.verdict) said.is ∙ verdict_explained asked.budget said.said,
      subst (λ (a : Answered). TakesWhole a.whole a.text call.before.out call.after.out) said.is with.taken,
    )

-- ---- what an explanation means

-- what is known of the problem of `explain`
known : (call : Call) (asked : RequestView) (files : List File) → IsCommand commands.Explain call asked files → (work : ExplainWork call.rules asked files)
    → IsBridgedWith asked.source asked files work.task.P work.task.posed
known call asked files is work =
    let range = asked-in_range call.words asked is.given.spelled in
    bridged_with asked.source asked files work.task.P work.task.posed (command_source asked commands.Explain range is.command_is refl) (command_output asked commands.Explain range is.command_is refl refl) work.task.few

-- what is said by a rule is true
says_true : (o : Option Rule) (asked : RequestView) (v : PinnedView) (said : Explained) → IsPinned v → asked_explanation o asked v ≡ Some said → IsTrueExplained v said
says_true None asked v said pinned is = absurd (cc (is))
says_true (Some rule) asked v said pinned is =
    let same : explanation_of v rule asked.budget (words_of_seed asked.seed) ≡ said = cc (is) in
    subst (IsTrueExplained v) same (explained_true v pinned rule asked.budget (words_of_seed asked.seed))

says : (call : Call) (asked : RequestView) (files : List File) → IsCommand commands.Explain call asked files → (work : ExplainWork call.rules asked files) (said : Explained)
    → asked_explanation (first_rule asked.rule call.rules) asked (work_pinned asked work) ≡ Some said → IsTrueExplained (work_pinned asked work) said
says call asked files is work said ends = says_true (first_rule asked.rule call.rules) asked (work_pinned asked work) said (known call asked files is work).pinned ends

pub writes_core : (call : Call) (asked : RequestView) (files : List File) → IsCommand commands.Explain call asked files → CameTo explain_command call asked files → WritesCore call asked files
writes_core call asked files is came nought =
    let came_as = is_as_explained call asked files came (inl (omega (arith, nought))) in by_said came_as.0 came_as.1 came_as.2 came_as.3 came_as.4
  where
    by_said : (work : ExplainWork call.rules asked files) (said : Explained) → asked_explanation (first_rule asked.rule call.rules) asked (work_pinned asked work) ≡ Some said → call.status ≡ explain_status said
        → Takes (explain_text (work_numbers asked work) said) call.before.out call.after.out
        → (work : ExplainWork call.rules asked files) × (core : List Kept) × AreToBlame asked work core × (call.after.out ≡ after_finish (after_bytes call.before.out (core_text (work_numbers asked work) core)))
    by_said work (explained.Core core) ends same takes =
        let true_core = says call asked files is work (explained.Core core) ends in
        let bridge = known call asked files is work in (
          work,
          core,
          record {
            rises = true_core.rises;
            inside = true_core.inside;
            none = λ m legal. true_core.none (bridge.assigned _ m legal);
            needed = λ kept within mark. bridge.makes _ (true_core.needed kept within mark);
          },
          takes,
        )
    by_said work explained.MapExists ends same takes = absurd (omega (arith, same, nought))
    by_said work explained.Spent ends same takes = absurd (omega (arith, same, nought))

-- all lines are kept of all
kept_all : {X : Type 0} (xs : List X) → kept_of (all_lines (length xs)) xs ≡ xs
kept_all [] = refl
kept_all (x ∷ xs) = ap (λ ys. x ∷ ys) (kept_all xs)

-- a map of all lines is one that the request asks for
all_legal : (source : SourceModel) (asked : RequestView) (files : List File) (P : Network) (posed : PosedBy source asked files P) (m : Raster)
    → IsKeptBy source asked files P posed (all_lines (pinned_by source asked files P posed).lines) m → IsLegalBy source asked files P posed m
all_legal (Overlap n) asked files P of m legal = subst (λ (pins : List Pin). IsLegalPicture of.sample.picture (rules_of asked) pins asked.width asked.height m) (kept_all of.problem.pins) legal
all_legal Tiles asked files P of m legal = subst (λ (pins : List Pin). IsLegalTileMap of.set of.mask asked.wrap_out pins m) (kept_all of.problem.pins) legal

pub has_map_of_all : (call : Call) (asked : RequestView) (files : List File) → IsCommand commands.Explain call asked files → CameTo explain_command call asked files → HasMapOfAll call asked files
has_map_of_all call asked files is came one =
    let came_as = is_as_explained call asked files came (inl (omega (arith, one))) in by_said came_as.0 came_as.1 came_as.2 came_as.3
  where
    by_said : (work : ExplainWork call.rules asked files) (said : Explained) → asked_explanation (first_rule asked.rule call.rules) asked (work_pinned asked work) ≡ Some said → call.status ≡ explain_status said
        → (work : ExplainWork call.rules asked files) × (m : Raster) × IsLegal asked files work.task.P work.task.posed m
    by_said work explained.MapExists ends same =
        let found = (known call asked files is work).makes _ (says call asked files is work explained.MapExists ends) in
        (work, found.0, all_legal asked.source asked files work.task.P work.task.posed found.0 found.1)
    by_said work (explained.Core core) ends same = absurd (omega (arith, same, one))
    by_said work explained.Spent ends same = absurd (omega (arith, same, one))

-- ---- what is written

tells_core : (call : Call) → AnswersOnly commands.Explain explain_command (IsCoreText call.rules) call
tells_core call asked files is answered has text same =
    let said = explain_answered call.rules asked files answered has in
    (said.work, said.said, said.ends, sym (ap (λ (a : Answered). a.text) said.is) ∙ same)

pub explain_cut : (call : Call) (asked : RequestView) (files : List File) → IsCommand commands.Explain call asked files → CameTo explain_command call asked files → CutsText (IsCoreText call.rules) call asked files
explain_cut call = cuts_text commands.Explain explain_command (IsCoreText call.rules) call (tells_core call)

pub explain_ends : EndsSo commands.Explain explain_command
explain_ends call asked files answered is has takes =
    let said = explain_answered call.rules asked files answered has in
    subst (λ (a : Answered). IsEnding explain_command call.rules asked files a.verdict) (sym said.is) (by_said said.said)
  where
    by_said : (said : Explained) → IsEnding explain_command call.rules asked files (explain_verdict asked.budget said)
    by_said (explained.Core core) = as_asked refl
    by_said explained.MapExists = as_no map_exists_text refl (inl refl) refl
    by_said explained.Spent = as_spent refl

-- all that `explain` promises
pub explain_promise : (call : Call) (asked : RequestView) (files : List File) → IsCommand commands.Explain call asked files → CameTo explain_command call asked files → ExplainPromise call asked files
explain_promise call asked files is came = record {
  as_explained = is_as_explained call asked files came;
  blamed = writes_core call asked files is came;
  map_exists = has_map_of_all call asked files is came;
  cut = explain_cut call asked files is came;
}
