use Rattle.std.proofs.Common.{arith}
use Rattle.wfc_domains.specs.Store.{StoreView}
use Rattle.wfc_search.proofs.CutBacks.{cut_first, cut_length}
use Rattle.wfc_search.proofs.follow.cut_back.Goals as goal

pub loop-store-init : goal.loop-store-init
loop-store-init g c =
    let first : StoreView = g.S.Store.view c.args.store.now in
    let now : StoreView = g.S.Store.view c.take_away.new.store in
    record {
      cut = cut_first first now c.take_away.ensures.cut_back (omega (arith, c.requires.fewer));
      enough = omega (arith, c.requires.fewer, cut_length first now _ c.take_away.ensures.cut_back (omega (arith, c.requires.fewer)));
      keeps = c.take_away.ensures.keeps;
      rule = c.take_away.ensures.rule;
    }
