-- The names of the files of a request.
use Rattle.std.specs.Prelude.{List, [], unwrap_or, ℕ}
use Rattle.wfc_plan.specs.declared.fault.Source.{Source}
use Rattle.wfc_plan.specs.declared.fault.Source.TheVariants as source
use Rattle.wfc_words.specs.RequestView.{RequestView}

-- the name of a file by what it is to the command
abbrev pub name_of : RequestView → Source → List ℕ
name_of asked source.Sample = asked.file
name_of asked source.Pins = unwrap_or asked.pins []
name_of asked source.Steps = unwrap_or asked.steps []
name_of asked source.Refutation = unwrap_or asked.refutation []
name_of asked (source.Picture tile) = asked.file
name_of asked source.Mask = unwrap_or asked.mask []
