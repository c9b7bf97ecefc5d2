use Rattle.std.proofs.Common.{◌≡◌, ◌<◌, length, get_or, slice_get, Some, sym, subst, ap, ◌∙◌, rules}
use Rattle.std.specs.Map.{keys_of}
use Rattle.wfc_pattern.specs.Patterns.{PatternsView}
use Rattle.wfc_pattern.specs.Tally.{windows_of}
use Rattle.wfc_pattern.proofs.NotedLemmas.{seen}
use Rattle.wfc_pattern.proofs.SeenLemmas.{window_seen}
use Rattle.wfc_pattern.proofs.Patterns.window.Goals as goal

pub returns-clause-value : goal.returns-clause-value
returns-clause-value c =
    let es = c.self.inside.counts.entries in
    let key = c.index-as_slice-p.result in
    let all : c.as_slice-2.result.now ≡ keys_of es = search rules in
    let read : key ≡ get_or (keys_of es) c.args.p key = c.index-as_slice-p.is ∙ ap (λ ks. get_or ks c.args.p key) all in
    let within : c.args.p < length (windows_of (seen es)) = subst (λ (v : PatternsView). c.args.p < length v.windows) (sym c.self.view_is) c.requires.p_in in
    ap (λ (v : PatternsView). slice_get v.windows c.args.p) (sym c.self.view_is) ∙ window_seen es c.args.p key within read ∙ ap Some (sym c.as_slice-3.ensures.value)
