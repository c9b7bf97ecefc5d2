use Rattle.std.proofs.Common.{◌-◌, ap, ◌∙◌, arith, length, take}
use Rattle.std.proofs.lemmas.List.{length-take, take-take}
use Rattle.wfc_problem.specs.Rounds.{greatest}
use Rattle.wfc_problem.specs.Sizes.{is_dead}
use Rattle.wfc_domains.specs.Store.{all_but_last}
use Rattle.wfc_domains.specs.Board.{view_of}
use Rattle.wfc_domains.proofs.Sweeps.{levels-alive, literals-front}
use Rattle.wfc_domains.proofs.plain.PlainStore.take.Goals as goal

pub put_all-requires-clause-literals_in : goal.put_all-requires-clause-literals_in
put_all-requires-clause-literals_in c =
    let h = c.self.invariant in
    let a = c.self.inside in
    literals-front a.board.problem.now c.reset.new.board.problem.now a.literals.standing _ (length a.literals.standing - 1) (ap (λ q. q.now) c.reset.ensures.problem)
    (c.standing.ensures.value ∙ ap (λ l. l.standing) c.pop.ensures.less) h.literals_in

pub put_all-requires-clause-alive : goal.put_all-requires-clause-alive
put_all-requires-clause-alive c = λ k l.
    let h = c.self.invariant in
    let a = c.self.inside in
    let some = rw (← c.self.view_is) at c.requires.some in
    let S = a.board.levels.standing in
    let ls = c.standing.ensures.value ∙ ap (λ x. x.standing) c.pop.ensures.less ∙ ap all_but_last h.literals in
    let short = ap length ls ∙ length-take (length S - 1) S in
    let front = ap (take k) ls ∙ take-take k (length S - 1) S (omega arith) in
    ap (λ q. is_dead q.now (greatest q.now (take k c.standing.result.now))) c.reset.ensures.problem
    ∙ ap (λ xs. is_dead a.board.problem.now (greatest a.board.problem.now xs)) front
    ∙ levels-alive (view_of a.board) h.closed.traced.problem h.closed.levels k (omega arith)
