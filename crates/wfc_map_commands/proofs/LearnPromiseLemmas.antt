-- What a call promises of `learn`.
use Rattle.std.proofs.Common.{List, Ok, ap, refl, subst, sym, ℕ, ◌∙◌, ◌≡◌}
use Rattle.wfc_choose.specs.Pick.{Rule}
use Rattle.wfc_map_commands.proofs.LearnGivenLemmas.{learn_given, learn_tiles_given}
use Rattle.wfc_map_commands.specs.LearnClaims.{LearnPromise, IsRules, IsRulesBy, WritesLearned}
use Rattle.wfc_map_commands.specs.LearnCommand.{LearnAnswers, learn_command}
use Rattle.wfc_map_commands.specs.LearnTask.{LearnTask, learn_plan}
use Rattle.wfc_outside.specs.Folder.{File}
use Rattle.wfc_outside.specs.Sink.{after_bytes, after_finish}
use Rattle.wfc_plan.specs.Plan.{outcome}
use Rattle.wfc_render.specs.Learned.{learned_text}
use Rattle.wfc_render.specs.LearnedTiles.{learned_tiles_text}
use Rattle.wfc_reply.proofs.CallerLemmas.{AnswersOnly, CameTo, EndsSo, as_asked, cut, cuts_text, five_apart, none, text_of, whole}
use Rattle.wfc_reply.specs.Asking.{IsCommand}
use Rattle.wfc_reply.specs.Call.{Call}
use Rattle.wfc_reply.specs.CutClaims.{CutsText}
use Rattle.wfc_reply.specs.Reply.{Answered, TakesWhole, done_with, verdict_status}
use Rattle.wfc_task.specs.Sources.{is_of_windows}
use Rattle.wfc_words.specs.RequestView.{RequestView}
use Rattle.wfc_words.specs.declared.kinds.CommandKind.TheVariants as commands
use Rattle.wfc_words.specs.declared.kinds.SourceModel.{SourceModel}
use Rattle.wfc_words.specs.declared.kinds.SourceModel.TheVariants.{Overlap, Tiles}

-- what `learn` answered
pub record HasLearned (source : SourceModel) (asked : RequestView) (files : List File) (answered : Answered) : Type 0 where
  pub text : List ℕ
  pub rules : IsRulesBy source asked files text
  pub is : done_with text ≡ answered

pub has_learned : (source : SourceModel) (rules : List Rule) (asked : RequestView) (files : List File) (task : LearnTask) (answered : Answered) → asked.source ≡ source → outcome (learn_plan asked) files ≡ Ok task
    → LearnAnswers task answered → HasLearned source asked files answered
has_learned (Overlap n) rules asked files task answered is comes answers =
    let given = learn_given asked files task (ap is_of_windows is) comes in
    let said : done_with (learned_text given.0 given.1) ≡ answered = subst (λ task. LearnAnswers task answered) (sym given.2) answers in
    record { text = learned_text given.0 given.1; rules = (given.0, given.1, given.3, refl); is = cc (said) }
has_learned Tiles rules asked files task answered is comes answers =
    let given = learn_tiles_given asked files task (ap is_of_windows is) comes in
    let said : done_with (learned_tiles_text given.0) ≡ answered = subst (λ task. LearnAnswers task answered) (sym given.1) answers in
    record { text = learned_tiles_text given.0; rules = (given.0, given.2, refl); is = cc (said) }

pub writes_learned : (call : Call) (asked : RequestView) (files : List File) → IsCommand commands.Learn call asked files → CameTo learn_command call asked files → WritesLearned call asked files
writes_learned call asked files is came low = by_end came
  where
    by_end : CameTo learn_command call asked files → (call.status ≡ 0) × (text : List ℕ) × IsRules asked files text × (call.after.out ≡ after_finish (after_bytes call.before.out text))
    by_end (whole answered has same takes) =
        let learned = has_learned asked.source call.rules asked files has.task answered refl has.is has.answers in (
          same ∙ sym (ap (λ (a : Answered). verdict_status a.verdict) learned.is),
          learned.text,
          learned.rules,
          subst (λ (a : Answered). TakesWhole a.whole a.text call.before.out call.after.out) (sym learned.is) takes,
        )
    by_end (cut answered has five front) = absurd (five_apart call.status five low)
    by_end (none high same) = absurd (high low)

learns_rules : (call : Call) → AnswersOnly commands.Learn learn_command IsRules call
learns_rules call asked files is answered has text same =
    let learned = has_learned asked.source call.rules asked files has.task answered refl has.is has.answers in
    subst (λ t. IsRules asked files t) (sym (text_of answered _ text learned.text learned.is refl same)) learned.rules

pub learn_cut : (call : Call) (asked : RequestView) (files : List File) → IsCommand commands.Learn call asked files → CameTo learn_command call asked files → CutsText IsRules call asked files
learn_cut call = cuts_text commands.Learn learn_command IsRules call (learns_rules call)

pub learn_ends : EndsSo commands.Learn learn_command
learn_ends call asked files answered is has takes =
    let learned = has_learned asked.source call.rules asked files has.task answered refl has.is has.answers in
    as_asked (sym (ap (λ (a : Answered). a.verdict) learned.is))

-- all that `learn` promises
pub learn_promise : (call : Call) (asked : RequestView) (files : List File) → IsCommand commands.Learn call asked files → CameTo learn_command call asked files → LearnPromise call asked files
learn_promise call asked files is came = record { written = writes_learned call asked files is came; cut = learn_cut call asked files is came }
