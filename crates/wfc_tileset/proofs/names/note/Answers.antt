use Rattle.std.proofs.Common.{◌≡◌, List, ℕ, false, Some, string_bytes, ap, ◌∙◌, rules}
use Rattle.std.specs.BTreeMap.{get_by_text}
use Rattle.std.specs.Map.{update}
use Rattle.std.specs.Option.{is_some}
use Rattle.std.specs.Str.{bytes_eq}
use Rattle.std.proofs.lemmas.Map.Text.{btree_map_updates_text}
use Rattle.wfc_tileset.proofs.NameLemmas.{noted_new}
use Rattle.wfc_tileset.proofs.names.note.Goals as goal

pub returns : goal.returns
returns c =
    let absent : is_some (get_by_text c.args.names.now c.args.name.now) ≡ false = search rules in
    let updated = btree_map_updates_text (string_bytes c.in_ok-name.name) c.args.names.now c.insert.new.self (Some c.args.number) c.in_ok-insert.ensures.updates in
    record {
      noted = noted_new c.args.names.now c.insert.new.self c.args.name.now c.args.number absent
          (λ name. updated name ∙ ap (λ (bs : List ℕ). update bytes_eq (get_by_text c.args.names.now) bs (Some c.args.number) name) c.in_ok-name.ensures.ok);
    }
