use Rattle.std.proofs.Common.{◌≤◌, ap, ◌∙◌, sym, refl, arith}
use Rattle.std.proofs.Math.Nat.{mul-le-mul_right}
use Rattle.std.proofs.lemmas.Bool.{eqb-true}
use Rattle.wfc_problem.specs.Network.{values}
use Rattle.wfc_domains.proofs.Boards.{grows-none, grows-more}
use Rattle.wfc_domains.proofs.Sweeps.{swept-at, swept-consistent}
use Rattle.wfc_domains.proofs.plain.sweep.Goals as goal

pub loop-cell-init : goal.loop-cell-init
loop-cell-init c = record {
  board = c.requires.board;
  cut = c.requires.cut;
  first = λ f. f;
  grows = grows-none _;
  start = refl;
  swept = record { longer = omega arith; supported = λ alive same x y d n l. absurd (omega arith) };
}

pub loop-value-preserved : goal.loop-value-preserved
loop-value-preserved c =
    let h = c.loop-value.invariant in
    let e = c.look_at.ensures in
    record {
      board = e.board;
      cut = e.cut;
      first = λ f. e.first _ h.swept (h.first f);
      grows = grows-more h.grows e.grows;
      start = e.start ∙ h.start;
      swept = swept-at _ _ _ _ (e.swept _ h.swept) (omega arith);
    }

pub returns-clause-done : goal.returns-clause-done
returns-clause-done c = λ same alive.
    let h = c.loop-cell.invariant in
    let P = c.loop-cell.board.problem.now in
    let cells : P.cells ≤ c.loop-cell.cell = omega (arith, c.cells-cell-end.ensures.value, ap (λ p. p.now.cells) h.grows.problem) in
    swept-consistent c.loop-cell.board _ _ h.board.traced h.swept (mul-le-mul_right (values P) cells) (sym c.len.ensures.value ∙ eqb-true _ _ same ∙ c.len-before.ensures.value) alive
