use Rattle.wfc_cli.proofs.PromiseLemmas.{keeps_promises}
use Rattle.wfc_cli.proofs.run.Goals as goal

pub returns : goal.returns
returns g c = record { promises = keeps_promises _ c.answer.ensures.answer }
