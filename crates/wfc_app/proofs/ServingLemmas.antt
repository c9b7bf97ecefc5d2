-- The choosers that are made, and the call that has them.
use Rattle.std.proofs.Common.{List, [], ℕ, map, suc, refl, inr, subst, sym, ◌≡◌, ◌+◌, ◌++◌, ◌∙◌, ap, arith}
use Rattle.wfc_app.specs.Choosers.{both_rules, rules_made}
use Rattle.wfc_choose.specs.Pick.{Rule}
use Rattle.wfc_cli.proofs.DeliveryLemmas.{unanswered}
use Rattle.wfc_cli.proofs.PromiseLemmas.{keeps_promises}
use Rattle.wfc_cli.specs.Delivery.{Tells, said_of_words}
use Rattle.wfc_cli.specs.Promises.{KeepsPromises}
use Rattle.wfc_outside.specs.Folder.{FolderView}
use Rattle.wfc_outside.specs.Sink.{SinkView}
use Rattle.wfc_reply.specs.Call.{Call, devices}
use Rattle.wfc_words.specs.declared.fault.CommandFault.TheVariants.{NoMemory}

-- before the first turn there are none
pub none_made : {A : Type 0} (rule : A → Rule) (choosers : List A) → choosers ≡ [] → map rule choosers ≡ rules_made 0
unfolding rules_made
none_made rule choosers none = ap (map rule) none

-- a turn puts one of each behind the others
pub made_more : (many : ℕ) (old new : List Rule) → old ≡ rules_made many → new ≡ old ++ both_rules → new ≡ rules_made (many + 1)
unfolding rules_made
made_more many old new was more =
    let next : suc many ≡ many + 1 = omega arith in
    more ∙ (λ i. was i ++ both_rules) ∙ ap rules_made next

-- the call with these rules, words, folder and sinks, and this status
abbrev with_devices : List Rule → List (List ℕ) → FolderView → FolderView → SinkView → SinkView → SinkView → SinkView → ℕ → Call
with_devices rules words folder folder_new out out_new err err_new status = record {
  rules = rules;
  words = words;
  before = devices folder out err;
  after = devices folder_new out_new err_new;
  status = status;
}

-- a call that tells the want of memory, and nothing else, keeps all promises
pub keeps_short : (rules : List Rule) (words : List (List ℕ)) (folder : FolderView) (out err was err_new : SinkView) (status : ℕ) → was ≡ err
    → status ≡ (said_of_words NoMemory).status → Tells (said_of_words NoMemory).told was err_new
    → KeepsPromises (with_devices rules words folder folder out out err err_new status)
keeps_short rules words folder out err was err_new status same ends told =
    keeps_promises _ (unanswered _ NoMemory refl refl (inr refl) ends (subst (λ (e : SinkView). Tells (said_of_words NoMemory).told e err_new) same told))

-- promises stand where the rules and the stream are the same
pub keeps_with : (rules made : List Rule) (words : List (List ℕ)) (folder folder_new : FolderView) (out out_new was err err_new : SinkView) (status : ℕ)
    → rules ≡ made → was ≡ err → KeepsPromises (with_devices rules words folder folder_new out out_new was err_new status)
    → KeepsPromises (with_devices made words folder folder_new out out_new err err_new status)
keeps_with rules made words folder folder_new out out_new was err err_new status alike same keeps =
    subst (λ (e : SinkView). KeepsPromises (with_devices made words folder folder_new out out_new e err_new status)) same
    (subst (λ (r : List Rule). KeepsPromises (with_devices r words folder folder_new out out_new was err_new status)) alike keeps)
