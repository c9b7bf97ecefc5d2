use Rattle.std.proofs.Common.{ap, ◌∙◌}
use Rattle.std.proofs.lemmas.Result.{err_from_is_err_and}
use Rattle.wfc_map_commands.proofs.DemonstrationLemmas.{demo_coloured, demo_posed, demo_taught, given, short_of_memory}
use Rattle.wfc_map_commands.proofs.demonstration.demo.Goals as goal

pub returns-in_err-picture : goal.returns-in_err-picture
returns-in_err-picture c =
    let p = err_from_is_err_and c.from_residual-in_err-picture.result c.from_residual-in_err-picture.ensures.1 in
    let symbols = c.deref.ensures.value ∙ c.in_ok-symbols.ensures.value in
    record { exact = rw (p.1, p.2) (short_of_memory _ _ _ (demo_coloured c.args.number _ symbols) c.in_err-picture.ensures.exact) }

pub returns-in_err-patterns : goal.returns-in_err-patterns
returns-in_err-patterns c =
    let p = err_from_is_err_and c.from_residual-in_err-patterns.result c.from_residual-in_err-patterns.ensures.1 in
    let symbols = c.deref.ensures.value ∙ c.in_ok-symbols.ensures.value in
    let made = given _ _ _ (demo_coloured c.args.number _ symbols) c.in_ok-picture.ensures.exact in
    record { exact = rw (p.1, p.2) (short_of_memory _ _ _ (demo_taught c.args.number c.in_ok-picture.picture (ap (λ m. m.0) made)) c.in_err-patterns.ensures.exact) }

pub returns-in_err-problem : goal.returns-in_err-problem
returns-in_err-problem c =
    let p = err_from_is_err_and c.from_residual-in_err-problem.result c.from_residual-in_err-problem.ensures.1 in
    let symbols = c.deref.ensures.value ∙ c.in_ok-symbols.ensures.value in
    let made = given _ _ _ (demo_coloured c.args.number _ symbols) c.in_ok-picture.ensures.exact in
    let patterns = given _ _ _ (demo_taught c.args.number c.in_ok-picture.picture (ap (λ m. m.0) made)) c.in_ok-patterns.ensures.exact in
    record { exact = rw (p.1, p.2) (short_of_memory _ _ _ (demo_posed c.args.number c.in_ok-patterns.patterns c.in_ok-picture.palette patterns) c.in_err-problem.ensures.exact) }

pub returns : goal.returns
returns c =
    let symbols = c.deref.ensures.value ∙ c.in_ok-symbols.ensures.value in
    let made = given _ _ _ (demo_coloured c.args.number _ symbols) c.in_ok-picture.ensures.exact in
    let patterns = given _ _ _ (demo_taught c.args.number c.in_ok-picture.picture (ap (λ m. m.0) made)) c.in_ok-patterns.ensures.exact in
    record { exact = (patterns, given _ _ _ (demo_posed c.args.number c.in_ok-patterns.patterns c.in_ok-picture.palette patterns) c.in_ok-problem.ensures.exact) }
