use Rattle.std.proofs.Common.{◌∙◌, ap}
use Rattle.wfc_words.specs.Commands.{CommandWords, has_word, is_word}
use Rattle.wfc_words.proofs.TableLemmas.{list_any_groups}
use Rattle.wfc_words.proofs.commands.takes.Goals as goal

pub returns : goal.returns
returns c = record {
  value =
      c.any_takes.ensures.value ∙ list_any_groups (is_word c.args.name.now) c.row.result.groups.now
      ∙ ap (λ (command : CommandWords). has_word command.groups c.args.name.now) c.row.ensures.value;
}
