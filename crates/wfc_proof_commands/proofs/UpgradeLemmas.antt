-- What `upgrade` answers, and what the relation of a call says of it in the subject's words.
use Rattle.std.proofs.Common.{Err, List, None, Ok, Option, Result, Some, ap, arith, inl, inr, refl, subst, sym, true, ℕ, ◌<◌, ◌^◌, ◌∙◌, ◌≡◌, ◌⊎◌}
use Rattle.wfc_check.proofs.ExactLemmas.{accepted_refutation, refutation_accepted, refutation_none}
use Rattle.wfc_check.specs.Text.{IsRefutation, checked}
use Rattle.wfc_check.specs.declared.fault.CheckFault.{CheckFault}
use Rattle.wfc_check.specs.declared.fault.CheckFault.TheVariants.{NoMemory}
use Rattle.wfc_choose.specs.Pick.{Rule}
use Rattle.wfc_lines.specs.Check.{text_of_check}
use Rattle.wfc_outside.specs.Folder.{File, FolderView}
use Rattle.wfc_outside.specs.Gives.{Gives}
use Rattle.wfc_outside.specs.Sink.{SinkView}
use Rattle.wfc_plan.specs.Plan.{Goes}
use Rattle.wfc_problem.proofs.CallerLemmas.{few_cells, few_values}
use Rattle.wfc_problem.specs.Network.{Network, values}
use Rattle.wfc_proof.proofs.Formed.{proof_kept}
use Rattle.wfc_proof.specs.Heads.{IsShape}
use Rattle.wfc_proof.specs.Proof.{Proof}
use Rattle.wfc_proof.specs.ProofText.{IsTextOf}
use Rattle.wfc_proof.specs.Upgrade.{upgraded_text}
use Rattle.wfc_proof.specs.declared.heads.Format.{Format}
use Rattle.wfc_proof.specs.declared.heads.Format.TheVariants.{Two}
use Rattle.wfc_proof.specs.declared.heads.Shape.{Shape}
use Rattle.wfc_proof_commands.proofs.ShapeLemmas.{command_shape}
use Rattle.wfc_proof_commands.proofs.UpgradingLemmas.{upgrade_given}
use Rattle.wfc_proof_commands.specs.Checking.{refutation_name, shape_asked}
use Rattle.wfc_proof_commands.specs.UpgradeClaims.{UpgradePromise, KeepsOld, UpgradesFront, UpgradesRefutation, WritesUpgraded, WritesUpgradedFront}
use Rattle.wfc_proof_commands.specs.UpgradeCommand.{UpgradeAnswers, upgrade_command}
use Rattle.wfc_proof_commands.specs.UpgradeGiven.{IsUpgradeTask}
use Rattle.wfc_proof_commands.specs.UpgradeTask.{UpgradeTask, upgrade_plan}
use Rattle.wfc_proof_commands.specs.UpgradeTask as tasks
use Rattle.wfc_proof_commands.specs.Upgrading.{Answering, UpgradeWork, Upgrades, fault_in, refutation_fault, same_proof_text, upgrade_answer}
use Rattle.wfc_reply.proofs.CallerLemmas.{CameTo, EndsSo, IsEnding, as_asked, as_no, cut, five_apart, none, put_cut, put_short, put_whole, verdict_apart, whole}
use Rattle.wfc_reply.specs.Asking.{IsCommand}
use Rattle.wfc_reply.specs.Call.{Call}
use Rattle.wfc_reply.specs.Ending.{EndsPut}
use Rattle.wfc_reply.specs.Reply.{Answered, CutsOff, Takes, TakesWhole, done_with, verdict_status}
use Rattle.wfc_reply.specs.declared.reply.Stop.{Stop}
use Rattle.wfc_reply.specs.declared.reply.Stop.TheVariants.{Cut, Unanswered}
use Rattle.wfc_reply.specs.declared.reply.CommandVerdict.{CommandVerdict}
use Rattle.wfc_reply.specs.declared.reply.CommandVerdict.TheVariants as verdict
use Rattle.wfc_task.proofs.CallerLemmas.{IsBridged, TakesSides, command_bridged, no_legal}
use Rattle.wfc_words.specs.RequestView.{RequestView}
use Rattle.wfc_words.specs.declared.kinds.CommandKind.TheVariants as commands

-- ---- the fault of a text

pub found_none : (wanted : Result (Unit {0}) CheckFault) (unit : Unit {0}) → Gives NoMemory (λ (done : Unit {0}). done) (Ok unit) wanted → None ≡ fault_in wanted
found_none wanted unit (inl same) = ap fault_in same
found_none wanted unit (inr short) = absurd (cc)

pub found_some : (wanted : Result (Unit {0}) CheckFault) (fault : CheckFault) → (fault ≡ NoMemory → ⊥) → Gives NoMemory (λ (done : Unit {0}). done) (Err fault) wanted → Some fault ≡ fault_in wanted
found_some wanted fault some (inl same) = ap fault_in same
found_some wanted fault some (inr short) = absurd (some (cc))

-- ---- the answer

-- a text that has no fault
pub upgraded_put : (asked : RequestView) (P : Network) (bytes : List ℕ) (shape : Shape) (old new : SinkView) (ended : Result CommandVerdict Stop) → shape ≡ shape_asked asked → None ≡ fault_in (checked P shape bytes)
    → Answering (done_with (upgraded_text P shape bytes)) old new ended → Upgrades asked P bytes old new ended
upgraded_put asked P bytes shape old new ended same found put =
    subst (λ (o : Option CheckFault). Answering (upgrade_answer asked P bytes o) old new ended) (found ∙ ap (λ (s : Shape). fault_in (checked P s bytes)) same)
    (subst (λ (s : Shape). Answering (done_with (upgraded_text P s bytes)) old new ended) same put)

-- a text that has one
pub upgraded_none : (asked : RequestView) (P : Network) (bytes : List ℕ) (shape : Shape) (sink : SinkView) (fault : CheckFault) → shape ≡ shape_asked asked → Some fault ≡ fault_in (checked P shape bytes)
    → Upgrades asked P bytes sink sink (Ok (verdict.Unaccepted fault))
upgraded_none asked P bytes shape sink fault same found =
    subst (λ (o : Option CheckFault). Answering (upgrade_answer asked P bytes o) sink sink (Ok (verdict.Unaccepted fault))) (found ∙ ap (λ (s : Shape). fault_in (checked P s bytes)) same) (refl, refl)

-- it is whole
answer_is : (asked : RequestView) (P : Network) (bytes : List ℕ) (found : Option CheckFault)
    → (let a : Answered = record { verdict = (upgrade_answer asked P bytes found).verdict; text = (upgrade_answer asked P bytes found).text; whole = true } in a) ≡ upgrade_answer asked P bytes found
answer_is asked P bytes None = refl
answer_is asked P bytes (Some fault) = refl

pub upgrade_ended : (asked : RequestView) (before after : FolderView) (old new : SinkView) (P : Network) (bytes : List ℕ) (ended : Result CommandVerdict Stop)
    → Goes (upgrade_plan asked) before after (Ok (tasks.upgrade P bytes)) → Upgrades asked P bytes old new ended → EndsPut (upgrade_plan asked) (UpgradeAnswers asked) before after old new ended
upgrade_ended asked before after old new P bytes ended goes upgrades = by_end ended upgrades
  where
    by_end : (ended : Result CommandVerdict Stop) → Answering (upgrade_answer asked P bytes (refutation_fault asked P bytes)) old new ended → EndsPut (upgrade_plan asked) (UpgradeAnswers asked) before after old new ended
    by_end (Ok said) put =
        subst (λ (v : CommandVerdict). EndsPut (upgrade_plan asked) (UpgradeAnswers asked) before after old new (Ok v)) (sym put.0)
        (put_whole (upgrade_plan asked) (UpgradeAnswers asked) before after old new (tasks.upgrade P bytes) (upgrade_answer asked P bytes (refutation_fault asked P bytes)).verdict (upgrade_answer asked P bytes (refutation_fault asked P bytes)).text goes
        (sym (answer_is asked P bytes (refutation_fault asked P bytes))) put.1)
    by_end (Err Cut) parted =
        put_cut (upgrade_plan asked) (UpgradeAnswers asked) before after old new (tasks.upgrade P bytes) (upgrade_answer asked P bytes (refutation_fault asked P bytes)).verdict (upgrade_answer asked P bytes (refutation_fault asked P bytes)).text true goes
        (sym (answer_is asked P bytes (refutation_fault asked P bytes))) parted
    by_end (Err (Unanswered fault)) short =
        subst (λ (n : SinkView). EndsPut (upgrade_plan asked) (UpgradeAnswers asked) before after old n (Err (Unanswered fault))) (sym short.1)
        (put_short (upgrade_plan asked) (UpgradeAnswers asked) before after old (tasks.upgrade P bytes) fault goes short.0)

-- ---- the claims

-- what is known of the work of an `upgrade`
record IsKnown (asked : RequestView) (files : List File) (work : UpgradeWork asked files) : Type 0 where
  bridge : IsBridged asked.source asked files work.P work.task.posed
  shape : IsShape (shape_asked asked)

known : (call : Call) (asked : RequestView) (files : List File) → IsCommand commands.Upgrade call asked files → (work : UpgradeWork asked files) → IsKnown asked files work
known call asked files is work =
    let sides : TakesSides commands.Upgrade = record { model = refl; width = refl; height = refl } in
    record { bridge = command_bridged commands.Upgrade call.words asked files work.P work.task.posed sides is.given.spelled is.command_is; shape = command_shape commands.Upgrade call asked files sides is }

-- its text keeps the proof
keeps : (asked : RequestView) (files : List File) (work : UpgradeWork asked files) → IsKnown asked files work → (format : Format) (proof : Proof) → IsTextOf work.P (shape_asked asked) format proof work.bytes
    → IsTextOf work.P (shape_asked asked) Two proof (same_proof_text asked work.P work.bytes)
keeps asked files work sure format proof text =
    let cells : work.P.cells < 2 ^ 32 = omega (arith, few_cells work.P sure.bridge.problem) in
    let all_values : values work.P < 2 ^ 32 = omega (arith, few_values work.P sure.bridge.problem) in
    proof_kept work.P (shape_asked asked) format proof work.bytes sure.shape cells all_values text

-- without a fault it was accepted
accepted : (answer : Result (Unit {0}) CheckFault) → fault_in answer ≡ None → answer ≡ Ok tt
accepted (Ok unit) is = refl
accepted (Err fault) is = absurd (cc)

is_refutation : (asked : RequestView) (files : List File) (work : UpgradeWork asked files) → IsKnown asked files work → refutation_fault asked work.P work.bytes ≡ None → IsRefutation work.P (shape_asked asked) work.bytes
is_refutation asked files work sure found = accepted_refutation work.P sure.bridge.problem (shape_asked asked) work.bytes (accepted (checked work.P (shape_asked asked) work.bytes) found)

-- what `upgrade` answered
pub record HasUpgraded (asked : RequestView) (files : List File) (answered : Answered) : Type 0 where
  pub work : UpgradeWork asked files
  pub is : upgrade_answer asked work.P work.bytes (refutation_fault asked work.P work.bytes) ≡ answered

pub has_upgraded : (rules : List Rule) (asked : RequestView) (files : List File) (task : UpgradeTask) (answered : Answered) (P : Network) (bytes : List ℕ) → tasks.upgrade P bytes ≡ task → IsUpgradeTask asked files P bytes
    → UpgradeAnswers asked task answered → HasUpgraded asked files answered
has_upgraded rules asked files task answered P bytes same given answers =
    let said : upgrade_answer asked P bytes (refutation_fault asked P bytes) ≡ answered = subst (λ (t : UpgradeTask). UpgradeAnswers asked t answered) (sym same) answers in
    record { work = record { P = P; bytes = bytes; task = given }; is = cc (said) }

pub upgrades_refutation : (call : Call) (asked : RequestView) (files : List File) → IsCommand commands.Upgrade call asked files → CameTo upgrade_command call asked files → UpgradesRefutation call asked files
upgrades_refutation call asked files is came low = by_end came
  where
    by_found : (work : UpgradeWork asked files) (found : Option CheckFault) → refutation_fault asked work.P work.bytes ≡ found → call.status ≡ verdict_status (upgrade_answer asked work.P work.bytes found).verdict
        → Takes (upgrade_answer asked work.P work.bytes found).text call.before.out call.after.out → (work : UpgradeWork asked files) × (((call.status ≡ 0) × WritesUpgraded asked work call) ⊎ ((call.status ≡ 1) × KeepsOld asked work call))
    by_found work None found same takes =
        let sure = known call asked files is work in
        let refutation = is_refutation asked files work sure found in (
          work,
          inl (
            same,
            record {
              refutation = refutation;
              none = no_legal asked files work.P work.task.posed sure.bridge (refutation_none work.P sure.bridge.problem (shape_asked asked) work.bytes refutation);
              same_proof = keeps asked files work sure;
              written = takes;
            },
          ),
        )
    by_found work (Some fault) found same takes =
        let sure = known call asked files is work in (
          work,
          inr (
            same,
            record {
              none = λ refuted.
                  let other : None ≡ Some fault = sym (ap fault_in (refutation_accepted work.P sure.bridge.problem (shape_asked asked) sure.shape work.bytes refuted)) ∙ found in
                  cc (other);
              same = takes;
            },
          ),
        )

    taken : (work : UpgradeWork asked files) (found : Option CheckFault) → TakesWhole (upgrade_answer asked work.P work.bytes found).whole (upgrade_answer asked work.P work.bytes found).text call.before.out call.after.out
        → Takes (upgrade_answer asked work.P work.bytes found).text call.before.out call.after.out
    taken work None takes = takes
    taken work (Some fault) takes = takes

    by_end : CameTo upgrade_command call asked files → (work : UpgradeWork asked files) × (((call.status ≡ 0) × WritesUpgraded asked work call) ⊎ ((call.status ≡ 1) × KeepsOld asked work call))
    by_end (whole answered has same takes) =
        let given = upgrade_given asked files has.task has.is in
        let said = has_upgraded call.rules asked files has.task answered given.0 given.1 given.2 given.3 has.answers in
        let work = said.work in
        by_found work (refutation_fault asked work.P work.bytes) refl (same ∙ sym (ap (λ (a : Answered). verdict_status a.verdict) said.is))
        (taken work (refutation_fault asked work.P work.bytes) (subst (λ (a : Answered). TakesWhole a.whole a.text call.before.out call.after.out) (sym said.is) takes))
    by_end (cut answered has five front) = absurd (five_apart call.status five low)
    by_end (none high same) = absurd (high low)

pub upgrades_front : (call : Call) (asked : RequestView) (files : List File) → IsCommand commands.Upgrade call asked files → CameTo upgrade_command call asked files → UpgradesFront call asked files
upgrades_front call asked files is came five = by_end came
  where
    by_found : (work : UpgradeWork asked files) (found : Option CheckFault) → refutation_fault asked work.P work.bytes ≡ found → CutsOff (upgrade_answer asked work.P work.bytes found).text call.before.out call.after.out
        → WritesUpgradedFront asked work call
    by_found work None found front =
        let sure = known call asked files is work in
        record { refutation = is_refutation asked files work sure found; same_proof = keeps asked files work sure; front = front }
    by_found work (Some fault) found front = absurd front

    by_end : CameTo upgrade_command call asked files → (call.after.out ≡ call.before.out) ⊎ ((work : UpgradeWork asked files) × WritesUpgradedFront asked work call)
    by_end (whole answered has same takes) = absurd (verdict_apart answered.verdict 5 (omega arith) (omega arith) (sym same ∙ five))
    by_end (cut answered has _ front) =
        let given = upgrade_given asked files has.task has.is in
        let said = has_upgraded call.rules asked files has.task answered given.0 given.1 given.2 given.3 has.answers in
        let work = said.work in
        inr (work, by_found work (refutation_fault asked work.P work.bytes) refl (subst (λ (a : Answered). CutsOff a.text call.before.out call.after.out) (sym said.is) front))
    by_end (none high same) = inl same

pub upgrade_ends : EndsSo commands.Upgrade upgrade_command
upgrade_ends call asked files answered is has takes =
    let given = upgrade_given asked files has.task has.is in
    let said = has_upgraded call.rules asked files has.task answered given.0 given.1 given.2 given.3 has.answers in
    subst (λ (a : Answered). IsEnding upgrade_command call.rules asked files a.verdict) said.is (by_found said.work (refutation_fault asked said.work.P said.work.bytes) refl)
  where
    by_found : (work : UpgradeWork asked files) (found : Option CheckFault) → refutation_fault asked work.P work.bytes ≡ found → IsEnding upgrade_command call.rules asked files (upgrade_answer asked work.P work.bytes found).verdict
    by_found work None found = as_asked refl
    by_found work (Some fault) found = as_no (text_of_check fault (refutation_name asked)) refl (inl refl) (work, fault, found, refl)

-- all that `upgrade` promises
pub upgrade_promise : (call : Call) (asked : RequestView) (files : List File) → IsCommand commands.Upgrade call asked files → CameTo upgrade_command call asked files → UpgradePromise call asked files
upgrade_promise call asked files is came = record { written = upgrades_refutation call asked files is came; front = upgrades_front call asked files is came }
