use Rattle.std.proofs.Common.{ap, arith, inl, inr, sym, ◌+◌, ◌<◌, ◌∙◌, ◌≡◌}
use Rattle.std.proofs.lemmas.Bool.{cases_eq, cases_lt, true≢false}
use Rattle.wfc_domains.proofs.Boards.{grows-more, stands-in}
use Rattle.wfc_domains.proofs.board.Board.cut_to.Goals as goal
use Rattle.wfc_log.specs.Domains.{has}
use Rattle.wfc_problem.specs.Network.{values}

pub loop-other-preserved : goal.loop-other-preserved
loop-other-preserved c =
    let h = c.loop-other.invariant in
    let o = c.cut_other.ensures in
    let n = c.next-other-in-loop-other.ensures in
    let same = ap (λ p. values p.now) (o.grows.problem ∙ h.grows.problem) in
    record {
      board = o.board;
      gone = λ k before ne. elim (cases_lt k (c.loop-other.other + 1)) [
        | inl early ↦
            elim (cases_eq k c.loop-other.other) [
              | inl e ↦ ap (has c.cut_other.new.self.domains c.args.cell) e ∙ o.gone (λ kept. ne (e ∙ kept))
              | inr other ↦ o.stays k (h.gone k (omega (arith, early, other)) ne)
            ]
        | inr late ↦ n.gone k late before
      ];
      stands = λ low. n.stands (omega (arith, low, o.board.traced.same_values, same, c.values-values.ensures.value));
      grows = grows-more h.grows o.grows;
      start = o.start ∙ h.start;
    }

pub returns-after-loop-other-clause-alone : goal.returns-after-loop-other-clause-alone
returns-after-loop-other-clause-alone c = λ alive other stands.
    let h = c.loop-other.invariant in
    let within = stands-in c.loop-other.self h.board.traced c.args.cell other stands in
    let same = ap (λ p. values p.now) h.grows.problem in
    let low : other < c.loop-other.other = omega (arith, within.1, same, c.values-values.ensures.value, c.loop-other-test.false) in
    elim (cases_eq other c.args.value) [
      | inl e ↦ e
      | inr ne ↦ absurd (true≢false (sym stands ∙ h.gone other low ne))
    ]
