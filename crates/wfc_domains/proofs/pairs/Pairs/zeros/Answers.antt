use Rattle.std.proofs.Common.{◌∙◌, ap}
use Rattle.wfc_domains.specs.Pairs.{paired_entries}
use Rattle.wfc_domains.proofs.PairLemmas.{paired-zero}
use Rattle.wfc_domains.proofs.pairs.Pairs.zeros.Goals as goal

pub returns : goal.returns
returns c = record { ok = ap paired_entries (c.in_ok-vec.ensures.items_if_clones_equal (λ y e. e)) ∙ paired-zero c.args.bytes }
