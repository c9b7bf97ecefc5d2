use Rattle.std.proofs.Common.{ap, ◌∙◌}
use Rattle.std.specs.Option.{is_some}
use Rattle.wfc_tileset.specs.Document.{has_name}
use Rattle.wfc_tileset.proofs.NameLemmas.{some_place}
use Rattle.wfc_tileset.proofs.tiles.is_taken.Goals as goal

pub returns : goal.returns
returns c = record {
  value = c.contains_key.ensures ∙ ap is_some (c.requires.names c.args.name.now) ∙ some_place (has_name c.args.name.now) c.args._tiles.now;
}
