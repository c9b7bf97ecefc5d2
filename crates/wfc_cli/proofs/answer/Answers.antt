use Rattle.std.proofs.Common.{refl}
use Rattle.wfc_cli.proofs.DeliveryLemmas.{answered, unanswered}
use Rattle.wfc_cli.proofs.answer.Goals as goal
use Rattle.wfc_outside.proofs.CallerLemmas.{gives_fault, gives_value}
use Rattle.wfc_words.specs.declared.fault.CommandFault.TheVariants.{NoMemory}

pub returns-in-Ok : goal.returns-in-Ok
returns-in-Ok g c = record { answer = answered _ _ _ (gives_value NoMemory (λ r. r) c.in-Ok.request _ c.in-Ok.ensures.exact) c.run-ended.ensures.ends c.deliver.ensures.says }

pub returns-in-Err : goal.returns-in-Err
returns-in-Err g c = record { answer = unanswered _ _ refl refl (gives_fault NoMemory (λ r. r) c.in-Err.fault _ c.in-Err.ensures.exact) c.refuse_words.ensures.status c.refuse_words.ensures.told }
