use Rattle.std.proofs.Common.{ap, ◌∙◌}
use Rattle.wfc_pattern.specs.Patterns.{PatternsView, weight_at}
use Rattle.wfc_pattern.proofs.SeenLemmas.{weight_seen}
use Rattle.wfc_pattern.proofs.Patterns.weight.Goals as goal

pub returns-clause-value : goal.returns-clause-value
returns-clause-value c = weight_seen c.self.inside.counts.entries c.args.p c.index.result.now c.index.ensures ∙ ap (λ (v : PatternsView). weight_at v c.args.p) c.self.view_is
