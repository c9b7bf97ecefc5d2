use Rattle.std.proofs.Common.{◌∙◌, sym, ap, inl}
use Rattle.std.specs.Option.{ok_or}
use Rattle.wfc_tileset.specs.declared.fault.TileFault.TheVariants as fault
use Rattle.wfc_tileset.proofs.DocumentLemmas.{parsed_no_text, parsed_text}
use Rattle.wfc_tileset.proofs.document.document.Goals as goal

pub returns-in_default : goal.returns-in_default
returns-in_default c = record { exact = inl (sym (parsed_no_text _ c.in_default.ensures.cases.0)) }

pub returns-in-Ok-table_from_str : goal.returns-in-Ok-table_from_str
returns-in-Ok-table_from_str c =
    record { exact = inl (sym (parsed_text _ _ c.in-Ok.ensures.cases.0 c.in-Ok.ensures.cases.1 ∙ ap (λ d. ok_or d fault.Toml) c.in-Ok-table_from_str.ensures.ok)) }
