use Rattle.std.proofs.Common.{sym, ◌∙◌}
use Rattle.std.proofs.lemmas.Bool.{true≢false}
use Rattle.wfc_domains.proofs.Sweeps.{board_without-swept, swept-board_without, first-board_without, swept-next}
use Rattle.wfc_domains.proofs.plain.look_at.Goals as goal
use Rattle.wfc_domains.proofs.plain.look_at.Goals.{else-is_alive-via-then-is_alive+else-has, else-is_alive-via-else-is_alive}

pub returns-in-Some-clause-board : goal.returns-in-Some-clause-board
returns-in-Some-clause-board c =
    (board_without-swept c.args.board.now c.remove.new.self _ _ _ c.requires.board c.requires.cut (c.is_alive.ensures.value.0 c.if-is_alive.true) c.requires.cell_in c.requires.value_in c.in-Some.ensures.some c.remove.ensures.removed).0

pub returns-in-Some-clause-cut : goal.returns-in-Some-clause-cut
returns-in-Some-clause-cut c =
    (board_without-swept c.args.board.now c.remove.new.self _ _ _ c.requires.board c.requires.cut (c.is_alive.ensures.value.0 c.if-is_alive.true) c.requires.cell_in c.requires.value_in c.in-Some.ensures.some c.remove.ensures.removed).1

pub returns-in-Some-clause-swept : goal.returns-in-Some-clause-swept
returns-in-Some-clause-swept c = λ start h. swept-board_without c.args.board.now c.remove.new.self start c.args.cell c.args.value c.in-Some.dir h c.remove.ensures.removed

pub returns-in-Some-clause-first : goal.returns-in-Some-clause-first
returns-in-Some-clause-first c = λ start h first.
    first-board_without c.args.board.now c.remove.new.self start c.args.cell c.args.value c.in-Some.dir c.requires.board.traced (c.is_alive.ensures.value.0 c.if-is_alive.true) c.in-Some.ensures.some c.remove.ensures.removed h first

pub returns-in_default-clause-swept : goal.returns-in_default-clause-swept
returns-in_default-clause-swept c = λ start h.
    swept-next c.args.board.now start c.args.cell c.args.value c.requires.board.traced h c.requires.value_in (λ _ _. c.in_default.ensures.none)

pub returns-else-is_alive-clause-swept : goal.returns-else-is_alive-clause-swept
returns-else-is_alive-clause-swept c = λ start h.
    swept-next c.args.board.now start c.args.cell c.args.value c.requires.board.traced h c.requires.value_in (λ alive t.
    elim c.else-is_alive.branch [
      | else-is_alive-via-then-is_alive+else-has w ↦ absurd (true≢false (sym t ∙ sym w.has.ensures.value ∙ w.if-has.false))
      | else-is_alive-via-else-is_alive w ↦ absurd (true≢false (sym (c.is_alive.ensures.value.1 alive) ∙ w.if-is_alive.false))
    ])
