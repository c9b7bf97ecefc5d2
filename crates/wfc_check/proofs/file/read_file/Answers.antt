use Rattle.std.proofs.Common.{ℕ, List, Bor, refl, ap, sym, ◌∙◌, arith}
use Rattle.wfc_check.specs.Checker.{checker_problem}
use Rattle.wfc_check.specs.Reading.{reading_place}
use Rattle.wfc_check.specs.Stream.{FileStreamView, stream_view}
use Rattle.wfc_check.specs.Text.{line_led, answer_at_end}
use Rattle.wfc_check.specs.declared.stream.LineEnd.TheVariants.{Feed, Long, End, Over}
use Rattle.wfc_check.proofs.FileLemmas.{at_first, at_next, answers_bad, answers_long, answers_end, answers_over}
use Rattle.wfc_check.proofs.StreamLemmas.{ends_line}
use Rattle.wfc_check.proofs.file.read_file.Goals as goal

pub lines-init : goal.lines-init
lines-init g c = record {
  folder = refl;
  name = ap (λ (s : FileStreamView). s.name) c.in-Ok.ensures.fresh;
  most = c.in-Ok.ensures.most;
  given = omega arith;
  at = at_first c.args.problem.now c.args.shape.now (g.F.Folder.seen c.args.folder.now).contents c.args.name.now (stream_view c.in-Ok.stream) c.in_ok-reading.reading c.in-Ok.ensures.fresh c.in_ok-reading.ensures.ok;
}

pub lines-preserved : goal.lines-preserved
lines-preserved g c =
    let r = c.lines.reading in
    let ends = ends_line (g.F.Folder.seen c.args.folder.now) _ (stream_view c.lines.stream) (stream_view c.next_line.new.self) c.next_line.new.line.items _ Feed c.lines.invariant.folder c.in-Ok-Feed.field-0-is c.in-Ok-Feed.ensures.line in
    let led = ap (line_led (checker_problem r.checker) r.shape.now r.number (reading_place r)) (sym c.deref.ensures.value) ∙ c.in-Ok-line.ensures.led in
    record {
      folder = c.in-Ok-Feed.ensures.unread ∙ c.lines.invariant.folder;
      name = ap (λ (n : Bor (List ℕ)). n.now) c.next_line.ensures.name ∙ c.lines.invariant.name;
      most = c.next_line.ensures.most ∙ c.lines.invariant.most;
      given = omega (arith, c.next_line.ensures.given, c.lines.invariant.given);
      at = at_next c.args.problem.now c.args.shape.now (g.F.Folder.seen c.args.folder.now).contents c.args.name.now (stream_view c.lines.stream) (stream_view c.next_line.new.self) r c.line.new.self
          c.next_line.new.line.items c.lines.invariant.at ends.0 ends.1 led c.in-Ok-line.ensures.same c.in-Ok-line.ensures.next;
    }

pub returns-in-Err-line-clause-answer : goal.returns-in-Err-line-clause-answer
returns-in-Err-line-clause-answer g c =
    let r = c.lines.reading in
    let ends = ends_line (g.F.Folder.seen c.args.folder.now) _ (stream_view c.lines.stream) (stream_view c.next_line.new.self) c.next_line.new.line.items _ Feed c.lines.invariant.folder c.in-Ok-Feed.field-0-is c.in-Ok-Feed.ensures.line in
    let led = ap (line_led (checker_problem r.checker) r.shape.now r.number (reading_place r)) (sym c.deref.ensures.value) ∙ c.in-Err-line.ensures.led in
    answers_bad c.args.problem.now c.args.shape.now c.args.name.now _ _ (stream_view c.lines.stream) (stream_view c.next_line.new.self) r c.next_line.new.line.items c.in-Err-line.fault
    (c.in-Ok-Feed.ensures.unread ∙ c.lines.invariant.folder) c.lines.invariant.at ends.0 ends.1 led

pub returns-in-Ok-Long-clause-answer : goal.returns-in-Ok-Long-clause-answer
returns-in-Ok-Long-clause-answer g c =
    let ends = ends_line (g.F.Folder.seen c.args.folder.now) _ (stream_view c.lines.stream) (stream_view c.next_line.new.self) c.next_line.new.line.items _ Long c.lines.invariant.folder c.in-Ok-Long.field-0-is c.in-Ok-Long.ensures.line in
    answers_long c.args.problem.now c.args.shape.now c.args.name.now _ _ (stream_view c.lines.stream) (stream_view c.next_line.new.self) c.lines.reading c.next_line.new.line.items c.bad_line.result
    (c.in-Ok-Long.ensures.unread ∙ c.lines.invariant.folder) c.lines.invariant.at ends.0 ends.1 c.bad_line.ensures.value

pub returns-in-Ok-End-clause-answer : goal.returns-in-Ok-End-clause-answer
returns-in-Ok-End-clause-answer g c =
    let r = c.lines.reading in
    let ends = ends_line (g.F.Folder.seen c.args.folder.now) _ (stream_view c.lines.stream) (stream_view c.next_line.new.self) c.next_line.new.line.items _ End c.lines.invariant.folder c.in-Ok-End.field-0-is c.in-Ok-End.ensures.line in
    answers_end c.args.problem.now c.args.shape.now c.args.name.now _ _ (stream_view c.lines.stream) r c.next_line.new.line.items c.end.result
    (c.in-Ok-End.ensures.unread ∙ c.lines.invariant.folder) c.lines.invariant.at ends.0 ends.1 ends.2 (c.end.ensures.exact ∙ ap (answer_at_end r.number (reading_place r)) c.deref-in-Ok-End.ensures.value)

pub returns-in-Ok-Over-clause-answer : goal.returns-in-Ok-Over-clause-answer
returns-in-Ok-Over-clause-answer g c =
    let ends = ends_line (g.F.Folder.seen c.args.folder.now) _ (stream_view c.lines.stream) (stream_view c.next_line.new.self) c.next_line.new.line.items _ Over c.lines.invariant.folder c.in-Ok-Over.field-0-is c.in-Ok-Over.ensures.line in
    answers_over c.args.problem.now c.args.shape.now c.args.name.now _ _ (stream_view c.lines.stream) c.lines.reading c.next_line.new.line.items
    (c.in-Ok-Over.ensures.unread ∙ c.lines.invariant.folder) c.lines.invariant.at ends.0 ends.1
