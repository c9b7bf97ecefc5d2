use Rattle.std.proofs.Common.{sym, ◌∙◌}
use Rattle.std.proofs.lemmas.Bool.{eqb-true}
use Rattle.wfc_domains.proofs.Loading.{full-support}
use Rattle.wfc_domains.proofs.beside.is_same_side.Goals as goal

pub returns-then-size-values : goal.returns-then-size-values
returns-then-size-values c =
    let P = c.args.problem.now in
    let p = c.values.ensures.problem in
    let D = c.args.domains.now in
    let same = c.requires.domains.same_values in
    let all = c.from-values.ensures ∙ c.values.ensures.value ∙ sym same in
    let here = sym c.neighbour.ensures.value ∙ c.in-Some-Some.is-0 in
    let there = sym c.neighbour-2.ensures.value ∙ c.in-Some-Some.is-1 in
    record {
      same = λ t v.
          full-support P p D c.args.cell v c.args.dir c.in-Some-Some.next c.requires.dir_in here (sym c.size.ensures.value ∙ c.if-size-values.true ∙ all) same
          ∙ sym (full-support P p D c.args.other v c.args.dir c.in-Some-Some.far c.requires.dir_in there
          (sym c.size-then-size-values.ensures.value ∙ eqb-true c.size-then-size-values.result c.from-values.result t ∙ all) same);
    }
