-- What a call that is an answer promises.
use Rattle.wfc_box_commands.proofs.CallerLemmas.{box_check_promise, box_fill_promise, box_refute_promise}
use Rattle.wfc_cli.proofs.AnswerLemmas.{came_to}
use Rattle.wfc_cli.proofs.LineLemmas.{is_apart_from_err, tells_status}
use Rattle.wfc_cli.proofs.TheoremLemmas.{first_fault_decides, has_first_fault, is_device_fault, is_no_command, keeps_counts, keeps_out, no_command_is_3, task_is_answered}
use Rattle.wfc_cli.specs.Answer.{IsAnswer}
use Rattle.wfc_cli.specs.Promises.{KeepsPromises}
use Rattle.wfc_grow_command.proofs.CallerLemmas.{grow_promise}
use Rattle.wfc_map_commands.proofs.CallerLemmas.{demo_promise, domains_promise, fill_promise, learn_promise}
use Rattle.wfc_proof_commands.proofs.CallerLemmas.{check_promise, refute_promise, upgrade_promise}
use Rattle.wfc_reply.specs.Call.{Call}
use Rattle.wfc_run_commands.proofs.CallerLemmas.{explain_promise, race_promise}
use Rattle.wfc_words.specs.declared.kinds.CommandKind.TheVariants as commands

pub keeps_promises : (call : Call) → IsAnswer call → KeepsPromises call
keeps_promises call answer = record {
  answer = answer;
  command = is_no_command call answer;
  refused_command = no_command_is_3 call answer;
  input = has_first_fault call answer;
  device = is_device_fault call answer;
  counts = keeps_counts call answer;
  untouched = keeps_out call answer;
  told = tells_status call answer;
  apart = is_apart_from_err call answer;
  refused = first_fault_decides call answer;
  complete = task_is_answered call answer;
  learn = λ asked files is. learn_promise call asked files is (came_to commands.Learn call answer asked files is);
  fill = λ asked files is. fill_promise call asked files is (came_to commands.Fill call answer asked files is);
  domains = λ asked files is. domains_promise call asked files is (came_to commands.Domains call answer asked files is);
  demo = λ asked files is. demo_promise call asked files is (came_to commands.Demo call answer asked files is);
  refute = λ asked files is. refute_promise call asked files is (came_to commands.Refute call answer asked files is);
  check = λ asked files is. check_promise call asked files is (came_to commands.Check call answer asked files is);
  upgrade = λ asked files is. upgrade_promise call asked files is (came_to commands.Upgrade call answer asked files is);
  race = λ asked files is. race_promise call asked files is (came_to commands.Race call answer asked files is);
  explain = λ asked files is. explain_promise call asked files is (came_to commands.Explain call answer asked files is);
  grow = λ asked files is. grow_promise call asked files is (came_to commands.Grow call answer asked files is);
  box_fill = λ asked files is. box_fill_promise call asked files is (came_to commands.BoxFill call answer asked files is);
  box_refute = λ asked files is. box_refute_promise call asked files is (came_to commands.BoxRefute call answer asked files is);
  box_check = λ asked files is. box_check_promise call asked files is (came_to commands.BoxCheck call answer asked files is);
}
