use Rattle.wfc_search.proofs.Runs.{start_run, run_same, from_few, from_computed, between_start}
use Rattle.wfc_search.specs.Run.{start}
use Rattle.wfc_search.proofs.laws.runs_end.Goals as goal

pub returns : goal.returns
returns c = record {
  exists = start_run;
  one = λ P rule budget words later other x y a b. run_same P rule budget (start words) later other x y a b;
  turns = λ P p rule budget words later outcome run. from_few P p rule budget (start words) later outcome (between_start P budget words) run;
  outcome = λ P p rule budget words later outcome run. from_computed P p rule budget (start words) later outcome (between_start P budget words) run;
}
