use Rattle.std.proofs.Common.{◌≡◌, ◌+◌, ◌≤◌, [], map, sym, subst, ap, ◌∙◌, arith}
use Rattle.std.proofs.lemmas.Option.{get_or_from_slice_get}
use Rattle.indexmap.specs.IndexMap.{set_value_at}
use Rattle.indexmap.proofs.CallerLemmas.{keys-with_value_at}
use Rattle.wfc_pattern.specs.Met.{noted_at}
use Rattle.wfc_pattern.specs.Tally.{recount, total, windows_of}
use Rattle.wfc_pattern.proofs.NotedLemmas.{seen, noted_there, count_within}
use Rattle.wfc_pattern.proofs.SeenLemmas.{items_of, windows_seen, window_at_entry}
use Rattle.wfc_pattern.proofs.counts.Tally.raise.Goals as goal

pub overflow_add-count : goal.overflow_add-count
overflow_add-count c =
    let within : c.pair_mut-count.result.1.now ≤ total c.args.self.now =
    subst (λ es. c.pair_mut-count.result.1.now ≤ total es) c.self.view_is (count_within c.self.inside.counts.entries c.args.at c.pair_mut-count.result.0.now c.pair_mut-count.result.1.now c.pair_mut-count.ensures.value) in
    omega arith

pub returns-clause-raised : goal.returns-clause-raised
returns-clause-raised c =
    let es = c.self.inside.counts.entries in
    let key = c.pair_mut-count.result.0.now in
    let v = c.pair_mut-count.result.1.now in
    let stands : noted_at (seen es) c.args.at ≡ key.items = get_or_from_slice_get (windows_of (seen es)) c.args.at key.items [] (window_at_entry es c.args.at key v c.pair_mut-count.ensures.value) in
    noted_there es c.args.at key v c.pair_mut-count.ensures.unique c.pair_mut-count.ensures.value
    ∙ ap (recount (seen es)) (sym stands)
    ∙ ap (λ t. recount t (noted_at t c.args.at)) c.self.view_is

pub returns-clause-windows : goal.returns-clause-windows
returns-clause-windows c =
    let es = c.self.inside.counts.entries in
    let written = set_value_at es c.args.at (c.pair_mut-count.result.1.now + 1) in
    windows_seen written
    ∙ ap (λ ks. map items_of ks) (keys-with_value_at c.self.inside.counts c.args.at (c.pair_mut-count.result.1.now + 1))
    ∙ sym (windows_seen es)
    ∙ ap windows_of c.self.view_is
