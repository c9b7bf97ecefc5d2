-- What a call of the program promises: the main theorem.
use Rattle.wfc_box_commands.specs.BoxClaims.{BoxCheckPromises, BoxFillPromises, BoxRefutePromises}
use Rattle.wfc_cli.specs.Answer.{IsAnswer}
use Rattle.wfc_cli.specs.LineClaims.{IsApartFromErr, TellsStatus}
use Rattle.wfc_cli.specs.Theorem.{CountsStand, HasDeviceFault, HasFirstFault, HasRefusedWords}
use Rattle.wfc_cli.specs.Theorem.{IsComplete, IsRefusedFirst, KeepsOut, RefusesWords}
use Rattle.wfc_grow_command.specs.GrowClaims.{GrowPromises}
use Rattle.wfc_map_commands.specs.DemoClaims.{DemoPromises}
use Rattle.wfc_map_commands.specs.DomainsClaims.{DomainsPromises}
use Rattle.wfc_map_commands.specs.FillClaims.{FillPromises}
use Rattle.wfc_map_commands.specs.LearnClaims.{LearnPromises}
use Rattle.wfc_proof_commands.specs.CheckClaims.{CheckPromises}
use Rattle.wfc_proof_commands.specs.RefuteClaims.{RefutePromises}
use Rattle.wfc_proof_commands.specs.UpgradeClaims.{UpgradePromises}
use Rattle.wfc_reply.specs.Call.{Call}
use Rattle.wfc_run_commands.specs.ExplainClaims.{ExplainPromises}
use Rattle.wfc_run_commands.specs.RaceClaims.{RacePromises}

-- what holds of every call, whichever its command, and what each command promises
pub record KeepsPromises (call : Call) : Type 0 where
  -- its statuses, bytes and lines go together, and each has its cause
  pub answer : IsAnswer call
  -- status 3 comes only where the words are no request
  pub command : RefusesWords call
  -- words that are no request have it, or memory ran out
  pub refused_command : HasRefusedWords call
  -- statuses 4 and 7: where the files are told, the first fault of the request has the status
  pub input : HasFirstFault call
  -- status 5 comes only from a device
  pub device : HasDeviceFault call
  -- at each status but 5 no count of faults rose
  pub counts : CountsStand call
  -- without an answer the sink of the answer is as before
  pub untouched : KeepsOut call
  -- the error stream takes a line at each status but 0: that of the words, or over told files that of the status
  pub told : TellsStatus call
  -- nothing else depends on that stream
  pub apart : IsApartFromErr call
  -- where no fault is counted, the first fault of the request decides
  pub refused : IsRefusedFirst call
  -- and where it has none, its answer is put whole, or memory ran out
  pub complete : IsComplete call
  -- `learn` writes the rules that the sample teaches or the tile set allows
  pub learn : LearnPromises call
  -- `fill` writes legal maps alone, each that of its run, and says 'no map' only where there is none
  pub fill : FillPromises call
  -- `domains` writes the greatest consistent domains before the first step and after each
  pub domains : DomainsPromises call
  -- `demo` writes four numbers of its own run, and ends as that does
  pub demo : DemoPromises call
  -- `refute` writes what its run tells: without a map a proof that there is none
  pub refute : RefutePromises call
  -- `check` accepts exactly the refutations of the problem asked for
  pub check : CheckPromises call
  -- `upgrade` writes the same proof in format 2, of a refutation alone
  pub upgrade : UpgradePromises call
  -- `race` names the run that ends first, which is that of its own seed
  pub race : RacePromises call
  -- `explain` writes lines of the pins file that are to blame for it that there is no map
  pub explain : ExplainPromises call
  -- `grow` writes legal maps alone, block by block, and of a block that is stuck a proof that its pins admit no map
  pub grow : GrowPromises call
  -- `box-fill` writes legal boxes alone, each that of its run, and says 'no map' only where there is none
  pub box_fill : BoxFillPromises call
  -- `box-refute` writes what its run tells: without a box a proof that there is none
  pub box_refute : BoxRefutePromises call
  -- `box-check` accepts exactly the refutations of the box asked for
  pub box_check : BoxCheckPromises call
