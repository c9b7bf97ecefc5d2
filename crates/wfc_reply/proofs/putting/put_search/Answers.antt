use Rattle.std.proofs.Common.{refl}
use Rattle.std.proofs.lemmas.Result.{err_from_is_err_and}
use Rattle.wfc_reply.proofs.PuttingLemmas.{head_cut, writing_cut, writing_put}
use Rattle.wfc_reply.proofs.putting.put_search.Goals as goal
use Rattle.wfc_runs.specs.Words.{words_of_seed}

pub returns-in_err-put_head : goal.returns-in_err-put_head
returns-in_err-put_head g c =
    let p = err_from_is_err_and c.from_residual.result c.from_residual.ensures.1 in
    record {
      puts = rw (p.1, p.2) (head_cut _ c.args.writing c.args.problem.now _ (words_of_seed c.args.writing.seed) _ _
          (record {
            ready = c.requires.ready;
            rule_is = refl;
            budget = c.requires.budget;
            problem = c.requires.problem;
            standing = c.requires.standing;
            unmade = c.requires.retractions;
            seed = refl;
          }) c.in_err-put_head.ensures.put);
      answered = λ fault. rw (p.1, p.2) (λ is. absurd (cc (is)));
    }

pub returns-in-Ok : goal.returns-in-Ok
returns-in-Ok g c = record {
  puts = writing_put _ c.args.writing c.args.problem.now _ _ c.in-Ok.outcome _ _ _
      (record {
        ready = c.requires.ready;
        rule_is = refl;
        budget = c.requires.budget;
        problem = c.requires.problem;
        standing = c.requires.standing;
        unmade = c.requires.retractions;
        seed = refl;
      }) c.in_ok-put_head.ensures.put c.in-Ok.ensures.put;
  answered = λ fault is. absurd (cc (is));
}

pub returns-in-Err : goal.returns-in-Err
returns-in-Err g c = record {
  puts = writing_cut _ c.args.writing c.args.problem.now _ _ _ _ _
      (record {
        ready = c.requires.ready;
        rule_is = refl;
        budget = c.requires.budget;
        problem = c.requires.problem;
        standing = c.requires.standing;
        unmade = c.requires.retractions;
        seed = refl;
      }) c.in_ok-put_head.ensures.put c.in-Err.ensures.cut;
  answered = λ fault is. absurd (cc (is));
}
