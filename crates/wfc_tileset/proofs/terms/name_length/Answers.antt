use Rattle.std.proofs.Common.{◌==◌, sym}
use Rattle.wfc_tileset.proofs.DocumentLemmas.{first_place, no_place}
use Rattle.wfc_tileset.proofs.terms.name_length.Goals as goal

pub returns-in-Some-clause-value : goal.returns-in-Some-clause-value
returns-in-Some-clause-value c = sym (first_place (λ byte. byte == 32) c.args.text.now c.in-Some.length (sym c.in-Some.ensures.value))

pub returns-in-None-clause-value : goal.returns-in-None-clause-value
returns-in-None-clause-value c = sym (no_place (λ byte. byte == 32) c.args.text.now 0 (sym c.in-None.ensures.value))
