use Rattle.std.proofs.Common.{◌≡◌, ◌-◌, ◌%◌, length, slice_index, sym, subst, ap, ◌∙◌, arith}
use Rattle.wfc_pattern.specs.Chains.{hashes_of, IsLastOf}
use Rattle.wfc_pattern.proofs.ChainLemmas.{befores_of, hash_at, before_at, found_further}
use Rattle.wfc_pattern.proofs.chains.Chains.earlier.Goals as goal

pub found_from-requires-clause-within : goal.found_from-requires-clause-within
found_from-requires-clause-within c =
    let links = c.args.self.now.links.items in
    omega (arith, before_at links c.index-link.result.now c.args.p c.requires.p_in c.index-link.ensures, (c.args.self.now.chained.links_lead c.args.p c.requires.p_in).within)

pub found_from-requires-clause-there : goal.found_from-requires-clause-there
found_from-requires-clause-there c some =
    let links = c.args.self.now.links.items in
    let m = length c.args.self.now.heads.items in
    let hash = hash_at links c.index-link.result.now c.args.p c.requires.p_in c.index-link.ensures in
    let place = before_at links c.index-link.result.now c.args.p c.requires.p_in c.index-link.ensures in
    ap (λ k. slice_index (hashes_of links) (k - 1) % m) place ∙ (c.args.self.now.chained.links_lead c.args.p c.requires.p_in).there (omega (arith, place)) ∙ ap (λ k. k % m) (sym hash)

pub returns : goal.returns
returns c =
    let links = c.args.self.now.links.items in
    let m = length c.args.self.now.heads.items in
    let hash : c.index-link.result.now.hash ≡ slice_index (hashes_of links) c.args.p = hash_at links c.index-link.result.now c.args.p c.requires.p_in c.index-link.ensures in
    let place : c.index-link.result.now.before ≡ slice_index (befores_of links) c.args.p = before_at links c.index-link.result.now c.args.p c.requires.p_in c.index-link.ensures in
    record {
      last =
          found_further m (hashes_of links) (slice_index (hashes_of links) c.args.p) c.args.p (slice_index (befores_of links) c.args.p) c.found_from.result (c.args.self.now.chained.links_lead c.args.p c.requires.p_in)
          (subst (λ h. IsLastOf (hashes_of links) h (slice_index (befores_of links) c.args.p) c.found_from.result) hash
          (subst (λ k. IsLastOf (hashes_of links) c.index-link.result.now.hash k c.found_from.result) place c.found_from.ensures.last));
    }
