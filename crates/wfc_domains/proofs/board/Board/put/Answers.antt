use Rattle.std.proofs.Common.{◌++◌, ◌∷◌, [], length, arith, ap, ◌∙◌}
use Rattle.wfc_log.specs.Log.{Log}
use Rattle.wfc_domains.proofs.Boards.{log-few, board-put, listed-begun}
use Rattle.wfc_domains.proofs.Sound.{put-is, put-not}
use Rattle.wfc_domains.proofs.board.Board.put.Goals as goal

pub overflow_cast-mark : goal.overflow_cast-mark
overflow_cast-mark c = omega (arith, log-few c.args.self.now c.requires.board.traced, c.len-mark.ensures.value)

pub cut_to-requires-clause-board : goal.cut_to-requires-clause-board
cut_to-requires-clause-board c = rw (c.push.ensures.more, c.len-mark.ensures.value, c.begin.ensures.begun) (board-put c.args.self.now c.args.literal _ c.requires.board c.requires.sound c.requires.alive)

pub cut_from-requires-clause-board : goal.cut_from-requires-clause-board
cut_from-requires-clause-board c = rw (c.push.ensures.more, c.len-mark.ensures.value, c.begin.ensures.begun) (board-put c.args.self.now c.args.literal _ c.requires.board c.requires.sound c.requires.alive)

pub returns-in-Is-clause-listed : goal.returns-in-Is-clause-listed
returns-in-Is-clause-listed c =
    let e = c.cut_to.ensures in
    let b = c.args.self.now in
    listed-begun c.cut_to.new.self b.levels.marks (length b.trail.removals) (ap (λ l. l.marks) (e.grows.levels ∙ c.push.ensures.more) ∙ ap (λ n. b.levels.marks ++ n ∷ []) c.len-mark.ensures.value)
    (e.start ∙ ap (λ (l : Log). l.start) c.begin.ensures.begun)

pub returns-in-Not-clause-listed : goal.returns-in-Not-clause-listed
returns-in-Not-clause-listed c =
    let e = c.cut_from.ensures in
    let b = c.args.self.now in
    listed-begun c.cut_from.new.self b.levels.marks (length b.trail.removals) (ap (λ l. l.marks) (e.grows.levels ∙ c.push.ensures.more) ∙ ap (λ n. b.levels.marks ++ n ∷ []) c.len-mark.ensures.value)
    (e.start ∙ ap (λ (l : Log). l.start) c.begin.ensures.begun)

pub returns-in-Is-clause-cut : goal.returns-in-Is-clause-cut
returns-in-Is-clause-cut c =
    let e = c.cut_to.ensures in
    put-is c.args.self.now c.cut_to.new.self c.args.literal c.in-Is.cell c.in-Is.value c.in-Is.is c.requires.board.traced c.requires.sound c.requires.alive e.board.traced
    e.grows.problem e.grows.more (e.grows.removals ∙ ap (λ (l : Log). l.removals ++ e.grows.more) c.begin.ensures.begun) (ap (λ l. l.standing) (e.grows.levels ∙ c.push.ensures.more)) e.alone

pub returns-in-Not-clause-cut : goal.returns-in-Not-clause-cut
returns-in-Not-clause-cut c =
    let e = c.cut_from.ensures in
    put-not c.args.self.now c.cut_from.new.self c.args.literal c.in-Not.cell c.in-Not.value c.in-Not.is c.requires.board.traced c.requires.sound c.requires.alive e.board.traced
    e.grows.problem e.grows.more (e.grows.removals ∙ ap (λ (l : Log). l.removals ++ e.grows.more) c.begin.ensures.begun) (ap (λ l. l.standing) (e.grows.levels ∙ c.push.ensures.more)) e.gone
