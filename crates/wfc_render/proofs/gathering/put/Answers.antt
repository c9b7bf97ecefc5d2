use Rattle.std.proofs.Common.{length, ◌++◌, ap, ◌∙◌, arith}
use Rattle.std.proofs.lemmas.Result.{err_from_is_err_and}
use Rattle.wfc_outside.proofs.CallerLemmas.{fault_out}
use Rattle.wfc_render.proofs.GatheringLemmas.{passes_flushed, passes_held}
use Rattle.wfc_render.proofs.gathering.put.Goals as goal
use Rattle.wfc_render.proofs.gathering.put.Goals.{then-room-bytes+in_ok-flush, else-room-bytes}

pub returns-in_err-flush : goal.returns-in_err-flush
returns-in_err-flush g c =
    let p = err_from_is_err_and c.from_residual.result c.from_residual.ensures.1 in
    record { gathered = rw p.1 (fault_out _ _ c.args.piece.now c.args.bytes.now c.in_err-flush.ensures.put) }

pub push-requires : goal.push-requires
push-requires g c = elim c.if-room-bytes.branch [
  | then-room-bytes+in_ok-flush w ↦ record { room = omega (arith, ap length w.piece-is, ap length w.in_ok-flush.ensures.none, c.requires.short) }
  | else-room-bytes w ↦ record { room = omega (arith, ap length w.piece-is, c.room.ensures.sum, w.if-room-bytes.false) }
]

pub returns : goal.returns
returns g c = elim c.if-room-bytes.branch [
  | then-room-bytes+in_ok-flush w ↦ record { gathered = passes_flushed _ _ c.args.piece.now c.args.bytes.now c.push.new.self (ap g.S.Sink.seen w.sink-is ∙ w.in_ok-flush.ensures.put) (c.push.ensures.pushed ∙ ap (λ p. p ++ c.args.bytes.now) (w.piece-is ∙ w.in_ok-flush.ensures.none)) }
  | else-room-bytes w ↦ record { gathered = passes_held _ _ c.args.piece.now c.args.bytes.now c.push.new.self (ap g.S.Sink.seen w.sink-is) (c.push.ensures.pushed ∙ ap (λ p. p ++ c.args.bytes.now) w.piece-is) }
]
