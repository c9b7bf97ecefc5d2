-- A command as a line of usage shows it.
use Rattle.std.specs.Prelude.{◌++◌, codes}
use Rattle.std.specs.List.{flat_map}
use Rattle.clap.specs.Walk.{Text}
use Rattle.wfc_words.specs.Commands.{Word, choice, command_row, command_words, demand, flag, needed}
use Rattle.wfc_words.specs.declared.kinds.CommandKind.{CommandKind}

-- a word behind a blank: `NAME` for a text that must be there, `[name=]` for an option with a text, `name=` for one that
-- must be there, and `[name]` for a flag
abbrev pub usage_of_word : Word → Text
usage_of_word (needed name) = codes " " ++ name
usage_of_word (choice name) = codes " [" ++ name ++ codes "=]"
usage_of_word (demand name) = codes " " ++ name ++ codes "="
usage_of_word (flag name) = codes " [" ++ name ++ codes "]"

-- a command's name and its words
abbrev pub usage_of : CommandKind → Text
usage_of kind = (command_row kind).name ++ flat_map usage_of_word (command_words (command_row kind))
