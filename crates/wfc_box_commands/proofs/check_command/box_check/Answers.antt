use Rattle.std.proofs.Common.{Err, Ok, refl, sym}
use Rattle.std.proofs.lemmas.Result.{err_from_is_err_and}
use Rattle.wfc_box_commands.proofs.check_command.box_check.Goals as goal
use Rattle.wfc_proof_commands.specs.CheckCommand.{CheckAnswers}
use Rattle.wfc_proof_commands.specs.CheckTask as task
use Rattle.wfc_box_commands.specs.BoxProofs.{box_proofs}
use Rattle.wfc_reply.proofs.CallerLemmas.{ends_by}

pub returns-in_err-found : goal.returns-in_err-found
returns-in_err-found g c =
    let p = err_from_is_err_and c.from_residual.result c.from_residual.ensures.1 in
    record { ends = rw (p.1, p.2) (ends_by (task.check_plan box_proofs c.args.request.now) CheckAnswers _ _ (Err c.in_err-found.field-0.0) _ c.in_err-found.ensures.goes refl) }

pub returns-in_err-answer : goal.returns-in_err-answer
returns-in_err-answer g c =
    let p = err_from_is_err_and c.from_residual-in_err-answer.result c.from_residual-in_err-answer.ensures.1 in
    record { ends = rw (p.1, p.2) (ends_by (task.check_plan box_proofs c.args.request.now) CheckAnswers _ _ (Ok (task.check c.in_ok-found.found)) _ c.in_ok-found.ensures.goes refl) }

pub returns : goal.returns
returns g c = record {
  ends = ends_by (task.check_plan box_proofs c.args.request.now) CheckAnswers _ _ (Ok (task.check c.in_ok-found.found)) _ c.in_ok-found.ensures.goes (sym c.in_ok-answer.ensures.answers);
}
