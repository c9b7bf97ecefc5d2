use Rattle.std.proofs.Common.{inl, inr, sym}
use Rattle.wfc_map_commands.proofs.CountLemmas.{few_steps}
use Rattle.wfc_map_commands.proofs.stepping.steps_in.Goals as goal

pub returns-clause-few : goal.returns-clause-few
returns-clause-few c = elim c.in_ok-read_steps.ensures.exact [ inl is ↦ few_steps c.args.bytes.now c.in_ok-read_steps.field-0.items (sym is) | inr is ↦ absurd (cc) ]
