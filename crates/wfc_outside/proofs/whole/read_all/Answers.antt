use Rattle.std.proofs.Common.{◌≡◌, length, arith}
use Rattle.std.proofs.lemmas.Grind.{common_steps}
use Rattle.wfc_outside.proofs.WholeLemmas.{front_more, front_longer, given_next}
use Rattle.wfc_outside.proofs.whole.read_all.Goals as goal

pub returns-then-len-given-clause-too_long : goal.returns-then-len-given-clause-too_long
returns-then-len-given-clause-too_long g c = λ _.
    let place : c.len-in-loop-bytes.result ≡ length c.loop-bytes.bytes.items = omega arith in
    let given = given_next (g.F.Folder.seen c.args.folder.now) (g.F.Folder.seen c.loop-bytes.folder) c.args.name.now c.loop-bytes.bytes.items c.read_at.new.buf c.len-in-loop-bytes.result c.in_ok-given.given c.loop-bytes.invariant.unchanged place c.in_ok-given.ensures.given in
    front_longer _ _ c.loop-bytes.bytes.items c.read_at.new.buf c.in_ok-given.given c.args.limit c.loop-bytes.invariant.front given c.in_ok-given.ensures.within (omega arith)

pub loop-bytes-preserved : goal.loop-bytes-preserved
loop-bytes-preserved g c = record {
  unchanged = cc (c.in_ok-given.ensures.ok, c.loop-bytes.invariant.unchanged);
  within = grind (arith, common_steps, c.in_ok-extend_from_slice.ensures.len);
  given = grind (arith, common_steps, c.loop-bytes.invariant.given, c.in_ok-given.ensures.counted, c.in_ok-extend_from_slice.ensures.len);
  front =
      let place : c.len-in-loop-bytes.result ≡ length c.loop-bytes.bytes.items = omega arith in
      let given = given_next (g.F.Folder.seen c.args.folder.now) (g.F.Folder.seen c.loop-bytes.folder) c.args.name.now c.loop-bytes.bytes.items c.read_at.new.buf c.len-in-loop-bytes.result c.in_ok-given.given c.loop-bytes.invariant.unchanged place c.in_ok-given.ensures.given in
      let more = front_more _ _ c.loop-bytes.bytes.items c.read_at.new.buf c.in_ok-given.given c.loop-bytes.invariant.front given c.in_ok-given.ensures.within in
      rw c.in_ok-extend_from_slice.ensures.items more;
}
