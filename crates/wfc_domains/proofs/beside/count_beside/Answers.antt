use Rattle.std.proofs.Common.{length, sym, ◌∙◌, ap, arith}
use Rattle.std.specs.Prelude.{count_by}
use Rattle.wfc_problem.specs.Domains.{count_at}
use Rattle.wfc_log.specs.Domains.{has}
use Rattle.wfc_domains.proofs.Problems.{supports-few, supports-below}
use Rattle.wfc_domains.proofs.Loading.{full-count}
use Rattle.wfc_domains.proofs.beside.count_beside.Goals as goal

pub overflow_cast-result : goal.overflow_cast-result
overflow_cast-result c =
    let P = c.args.problem.now in
    let p = c.supports-supports.ensures.problem in
    omega (arith, supports-few P p c.args.value c.args.dir c.requires.dir_in, ap length c.supports-supports.ensures.value)

pub count_among-requires-clause-values_in : goal.count_among-requires-clause-values_in
count_among-requires-clause-values_in c = λ k d l.
    let P = c.args.problem.now in
    omega (arith, supports-below P c.supports-supports.ensures.problem c.args.value c.args.dir _ c.supports-supports.ensures.value c.requires.dir_in k d l, c.requires.domains.same_values)

pub count_among-requires-clause-few : goal.count_among-requires-clause-few
count_among-requires-clause-few c =
    let P = c.args.problem.now in
    omega (arith, supports-few P c.supports-supports.ensures.problem c.args.value c.args.dir c.requires.dir_in, ap length c.supports-supports.ensures.value)

pub returns-then-size-from : goal.returns-then-size-from
returns-then-size-from c =
    let P = c.args.problem.now in
    let D = c.args.domains.now in
    let xs = c.supports-supports.result.now in
    let whole = sym c.size.ensures.value ∙ c.if-size-from.true ∙ c.from.ensures ∙ c.values.ensures.value ∙ sym c.requires.domains.same_values in
    let all = full-count D.values (has D c.in-Some.next) xs whole
    (λ k e l. omega (arith, supports-below P c.supports-supports.ensures.problem c.args.value c.args.dir xs c.supports-supports.ensures.value c.requires.dir_in k e l, c.requires.domains.same_values)) in
    record {
      value = sym (ap (count_at P (has D) c.args.value c.args.dir) (sym c.neighbour.ensures.value ∙ c.in-Some.is)
          ∙ ap (count_by (has D c.in-Some.next)) (sym c.supports-supports.ensures.value) ∙ all);
    }
