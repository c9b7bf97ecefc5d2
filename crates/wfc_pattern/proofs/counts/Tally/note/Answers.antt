use Rattle.std.proofs.Common.{◌≡◌, [], None, Some, position, slice_get, sym, subst, ap, ◌∙◌, nat_eq}
use Rattle.std.specs.Map.{lookup}
use Rattle.std.proofs.lemmas.Option.{get_or_from_slice_get}
use Rattle.std.specs.Cmp.Lexicographic.{pointwise}
use Rattle.wfc_lists.proofs.Positions.{stands_at}
use Rattle.wfc_pattern.specs.Met.{HasKept, StandsAt}
use Rattle.wfc_pattern.specs.Tally.{recount, windows_of}
use Rattle.wfc_pattern.proofs.MetLemmas.{kept_noted}
use Rattle.wfc_pattern.proofs.NotedLemmas.{seen, holds, nothing, noted_new}
use Rattle.wfc_pattern.proofs.SeenLemmas.{place_seen, window_at_end}
use Rattle.wfc_pattern.proofs.TallyLemmas.{sound, whole}
use Rattle.wfc_pattern.proofs.counts.Tally.note.Goals as goal

pub returns-in-Some-clause-noted : goal.returns-in-Some-clause-noted
returns-in-Some-clause-noted c =
    let w = c.args.window.now in
    let old = c.args.self.now in
    let found : position (pointwise nat_eq w) (windows_of old) ≡ Some c.in-Some.at =
    sym (c.in-Some.ensures.index ∙ place_seen w c.self.inside.counts.entries ∙ ap (λ t. position (pointwise nat_eq w) (windows_of t)) c.self.view_is) in
    let stands : StandsAt old c.in-Some.at w = stands_at (pointwise nat_eq) sound whole w (windows_of old) c.in-Some.at found in
    c.raise.ensures.raised ∙ ap (recount old) (get_or_from_slice_get (windows_of old) c.in-Some.at w [] stands)

pub returns-in-Some-clause-place : goal.returns-in-Some-clause-place
returns-in-Some-clause-place c =
    let w = c.args.window.now in
    let old = c.args.self.now in
    let found : position (pointwise nat_eq w) (windows_of old) ≡ Some c.in-Some.at =
    sym (c.in-Some.ensures.index ∙ place_seen w c.self.inside.counts.entries ∙ ap (λ t. position (pointwise nat_eq w) (windows_of t)) c.self.view_is) in
    ap (λ ws. slice_get ws c.in-Some.at) c.raise.ensures.windows ∙ stands_at (pointwise nat_eq) sound whole w (windows_of old) c.in-Some.at found

pub returns-clause-noted : goal.returns-clause-noted
returns-clause-noted c =
    let w = c.args.window.now in
    let es = c.self.inside.counts.entries in
    let absent : lookup (holds w) es ≡ None = nothing (lookup (holds w) es) (sym c.in_default.ensures.found) in
    ap seen c.in_ok-insert.ensures.entries ∙ noted_new w es c.in_ok-key.key absent c.in_ok-key.ensures.items ∙ ap (λ t. recount t w) c.self.view_is

pub returns-clause-place : goal.returns-clause-place
returns-clause-place c =
    let w = c.args.window.now in
    let es = c.self.inside.counts.entries in
    let absent : lookup (holds w) es ≡ None = nothing (lookup (holds w) es) (sym c.in_default.ensures.found) in
    ap (λ t. slice_get (windows_of t) c.len-at.result) (returns-clause-noted c)
    ∙ ap (λ t. slice_get (windows_of (recount t w)) c.len-at.result) (sym c.self.view_is)
    ∙ ap (λ i. slice_get (windows_of (recount (seen es) w)) i) c.len-at.ensures.len
    ∙ window_at_end es w absent

pub returns-clause-kept : goal.returns-clause-kept
returns-clause-kept c = subst (HasKept c.args.self.now) (sym (returns-clause-noted c)) (kept_noted c.args.self.now c.args.window.now)
