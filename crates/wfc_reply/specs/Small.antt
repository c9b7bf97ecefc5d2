-- A small request, a small run's writing and small rules, that the laws speak of.
use Rattle.std.specs.Prelude.{Some, [], codes, ℕ, ◌∷◌}
use Rattle.wfc_choose.specs.Pick.{Rule}
use Rattle.wfc_choose.specs.declared.RuleKind.TheVariants as rules
use Rattle.wfc_proof.specs.Small.{wrapped_shape}
use Rattle.wfc_reply.specs.Choosers.{rule_with}
use Rattle.wfc_reply.specs.declared.putting.RunWriting.{RunWriting}
use Rattle.wfc_words.specs.RequestView.{RequestView, default_request}
use Rattle.wfc_words.specs.declared.kinds.CommandKind.TheVariants.{Fill}

-- a request that names the sample `a`, the pins file `p`, the steps `s`, the refutation `r` and the mask `m`
abbrev pub named_files : RequestView
named_files = record (default_request Fill) {
  file = codes "a";
  pins = Some (codes "p");
  steps = Some (codes "s");
  refutation = Some (codes "r");
  mask = Some (codes "m");
}

-- how a run is written in the format of this number, with a shape whose numbers differ
abbrev pub writing_in : ℕ → RunWriting
writing_in format = record { format = format; shape = wrapped_shape; budget = 9; seed = 5 }

-- a rule that picks a cell of the fewest values, with this one rank
abbrev pub fewest_rule : ℕ → Rule
fewest_rule rank = rule_with rules.Fewest (rank ∷ [])

-- a rule that goes by this one rank
abbrev pub ranked_rule : ℕ → Rule
ranked_rule rank = rule_with rules.Ranked (rank ∷ [])
