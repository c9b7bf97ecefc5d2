use Rattle.std.proofs.Common.{◌≡◌, [], ap}
use Rattle.std.proofs.lemmas.Option.{get_or_from_slice_get}
use Rattle.wfc_pattern.specs.Patterns.{PatternsView, window_at}
use Rattle.wfc_pattern.proofs.AgreementLemmas.{says_agreement, same_test}
use Rattle.wfc_pattern.proofs.Patterns.agrees.Goals as goal

pub returns-clause-everywhere : goal.returns-clause-everywhere
returns-clause-everywhere c =
    let patterns = c.args.self.now in
    let side : c.self.inside.n ≡ patterns.n = ap (λ (v : PatternsView). v.n) c.self.view_is in
    says_agreement c.agree.result c.self.inside.n patterns.n _ (window_at patterns c.args.p) _ (window_at patterns c.args.q) c.args.dir side
    (get_or_from_slice_get patterns.windows c.args.p _ [] c.window.ensures.value) (get_or_from_slice_get patterns.windows c.args.q _ [] c.window-2.ensures.value) c.agree.ensures.exact

pub returns-clause-value : goal.returns-clause-value
returns-clause-value c =
    let patterns = c.args.self.now in
    let says = returns-clause-everywhere c in
    same_test patterns.n (window_at patterns c.args.p) (window_at patterns c.args.q) c.args.dir c.agree.result says.0 says.1
