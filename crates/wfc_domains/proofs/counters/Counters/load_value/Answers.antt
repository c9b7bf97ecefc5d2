use Rattle.std.proofs.Common.{◌<◌, arith}
use Rattle.wfc_domains.proofs.Loading.{loaded_more}
use Rattle.wfc_domains.proofs.counters.Counters.load_value.Goals as goal

pub loop-dir-preserved : goal.loop-dir-preserved
loop-dir-preserved g c =
    let h = c.loop-dir.invariant in
    let hd : c.loop-dir.dir < c.args.problem.now.dirs = omega (arith, c.dirs-dir-end.ensures.value) in
    record {
      loaded = loaded_more _ _ _ _ _ _ _ _ h.loaded c.requires.cell_in c.requires.value_in hd c.count_beside-count.ensures.value c.set.ensures.changed;
      steps = omega (arith, c.tick.ensures.one, h.steps);
    }
