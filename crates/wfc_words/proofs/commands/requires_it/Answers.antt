use Rattle.std.proofs.Common.{◌∙◌, ap}
use Rattle.wfc_words.specs.Commands.{CommandWords, has_required_word, is_required_word}
use Rattle.wfc_words.proofs.TableLemmas.{list_any_groups}
use Rattle.wfc_words.proofs.commands.requires_it.Goals as goal

pub returns : goal.returns
returns c = record {
  value =
      c.any_requires.ensures.value ∙ list_any_groups (is_required_word c.args.name.now) c.row.result.groups.now
      ∙ ap (λ (command : CommandWords). has_required_word command.groups c.args.name.now) c.row.ensures.value;
}
