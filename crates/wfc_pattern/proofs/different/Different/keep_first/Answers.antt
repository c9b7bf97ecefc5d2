use Rattle.std.proofs.Common.{arith}
use Rattle.wfc_pattern.proofs.DifferentLemmas.{met_more}
use Rattle.wfc_pattern.proofs.different.Different.keep_first.Goals as goal

pub loop-at-preserved : goal.loop-at-preserved
loop-at-preserved c =
    let A = c.args.arising.now in
    record {
      few = omega (arith, c.in_ok-keep.ensures.room);
      hashes = c.in_ok-keep.ensures.hashes;
      kept = met_more A.picture.now A.n A.symmetry A.columns c.loop-at.at c.loop-at.self.numbers.items c.keep.new.self.numbers.items c.loop-at.invariant.kept c.in_ok-keep.ensures.kept;
    }
