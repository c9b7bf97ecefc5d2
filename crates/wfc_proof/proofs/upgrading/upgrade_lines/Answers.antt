use Rattle.std.proofs.Common.{◌≡◌, ◌<◌, length, sym, ap, ◌∙◌, arith}
use Rattle.std.proofs.lemmas.Grind.{common_steps}
use Rattle.wfc_proof.specs.Upgrade.{lines_in}
use Rattle.wfc_proof.proofs.UpgradeLemmas.{line_read, never_fails, taken_on, taken_front, taken_all, read_whole}
use Rattle.wfc_proof.proofs.upgrading.upgrade_lines.Goals as goal

pub unreachable-requires : goal.unreachable-requires
unreachable-requires g c =
    let rest = c.lines.rest.now in
    let some : 0 < length rest = grind (arith, common_steps) in
    never_fails c.args.format rest (line_read c.args.format rest c.lines.invariant.whole some) c.first_line.result.0.now c.in_default.field-0 c.first_line.ensures.line (sym c.line_in.ensures.exact ∙ c.in_default.is)

pub take_line-requires : goal.take_line-requires
take_line-requires g c = record {
  whole = read_whole c.args.format c.first_line.result.0.now c.in-Ok.line (sym c.line_in.ensures.exact ∙ c.in-Ok.is);
  kept = c.lines.invariant.kept;
}

pub returns-in-Err : goal.returns-in-Err
returns-in-Err g c =
    let rest = c.lines.rest.now in
    let some : 0 < length rest = grind (arith, common_steps) in
    record {
      put = taken_front c.args.format rest c.first_line.result.0.now c.lines.kept c.in-Ok.line (g.S.Sink.seen c.args.sink.now) (g.S.Sink.seen c.lines.sink) (g.S.Sink.seen c.take_line.new.sink)
          (lines_in c.args.format c.args.bytes.now) c.in-Err.fault c.lines.invariant.whole some c.first_line.ensures.line (sym c.line_in.ensures.exact ∙ c.in-Ok.is) c.in-Err.ensures.failed c.lines.invariant.puts;
    }

pub lines-smaller : goal.lines-smaller
lines-smaller g c =
    let rest = c.lines.rest.now in
    let some : 0 < length rest = grind (arith, common_steps) in
    let read = line_read c.args.format rest c.lines.invariant.whole some in
    omega (arith, read.shorter, ap length c.first_line.ensures.behind)

pub lines-preserved : goal.lines-preserved
lines-preserved g c =
    let rest = c.lines.rest.now in
    let some : 0 < length rest = grind (arith, common_steps) in
    let on = taken_on c.args.format rest c.first_line.result.0.now c.first_line.result.1.now c.lines.kept c.in-Ok-take_line.after c.in-Ok.line (g.S.Sink.seen c.args.sink.now) (g.S.Sink.seen c.lines.sink)
    (g.S.Sink.seen c.take_line.new.sink) (lines_in c.args.format c.args.bytes.now) c.lines.invariant.whole some c.first_line.ensures.line (sym c.line_in.ensures.exact ∙ c.in-Ok.is) c.first_line.ensures.behind
    c.in-Ok-take_line.ensures.ok c.lines.invariant.puts in
    record { whole = on.whole; kept = on.kept; puts = on.puts }

pub returns : goal.returns
returns g c =
    let none : length c.lines.rest.now ≡ 0 = grind (arith, common_steps) in
    record {
      put = taken_all c.args.format c.lines.rest.now c.lines.kept (g.S.Sink.seen c.args.sink.now) (g.S.Sink.seen c.lines.sink) (g.S.Sink.seen c.put_kept.new.sink) (lines_in c.args.format c.args.bytes.now)
          c.put_kept.result none c.put_kept.ensures.put c.lines.invariant.puts;
    }
