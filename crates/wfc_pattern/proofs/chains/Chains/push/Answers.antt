use Rattle.std.proofs.Common.{◌≡◌, ◌+◌, ◌%◌, ◌<◌, length, slice_set, slice_index, sym, subst, ◌∙◌, rules}
use Rattle.std.proofs.lemmas.List.{get_or_default}
use Rattle.wfc_pattern.specs.declared.chains.Link.{Link}
use Rattle.wfc_pattern.specs.Chains.{IsChained}
use Rattle.wfc_pattern.proofs.ChainLemmas.{chained_push}
use Rattle.wfc_pattern.proofs.chains.Chains.push.Goals as goal

pub invariant_of-self-2 : goal.invariant_of-self-2
invariant_of-self-2 c =
    let old = c.args.self.now in
    let bucket = c.args.hash % c.len.result in
    let link : Link = record { hash = c.args.hash; before = c.index-before.result.now } in
    let falls : bucket ≡ c.args.hash % length old.heads.items = search rules in
    let within : bucket < length old.heads.items = search rules in
    let before : c.index-before.result.now ≡ slice_index old.heads.items bucket = c.index-before.ensures ∙ get_or_default old.heads.items bucket c.index-before.result.now 0 within in
    let counted : c.len-2.result ≡ length old.links.items + 1 = search rules in
    record {
      chained = subst (IsChained (slice_set old.heads.items bucket c.len-2.result)) (sym c.in_ok-push.ensures.items) (chained_push old.heads.items old.links.items link bucket c.len-2.result old.chained falls within before counted);
    }
