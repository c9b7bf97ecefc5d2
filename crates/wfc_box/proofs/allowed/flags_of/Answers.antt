use Rattle.std.proofs.Common.{◌≡◌, ◌++◌, length, take, drop, sym, subst, ◌∙◌, arith}
use Rattle.std.proofs.lemmas.Grind.{common_steps}
use Rattle.wfc_box.specs.StackTable.{AreStackFlags}
use Rattle.wfc_box.proofs.StackLemmas.{flags_none}
use Rattle.wfc_box.proofs.allowed.flags_of.Goals as goal

pub set_all-requires : goal.set_all-requires
set_all-requires c = record {
  within = c.requires.within;
  none = flags_none c.args.side c.deref_mut.result.now (c.deref_mut.ensures.value ∙ c.in_ok-flags.ensures.none);
}

pub returns : goal.returns
returns c =
    let new = c.set_all.new.flags in
    let whole : take c.in_ok-flags.flags.len (new ++ drop (length new) c.in_ok-flags.flags.items) ≡ new = grind (arith, common_steps) in
    record { flags = subst (AreStackFlags c.args.side c.args.pairs.now) (sym whole) c.set_all.ensures.flags }
