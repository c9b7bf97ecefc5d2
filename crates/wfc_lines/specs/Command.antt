-- The texts of words that are no request, and of a rule that no chooser has.
use Rattle.std.specs.Prelude.{ℕ, List, ◌++◌, codes}
use Rattle.wfc_choose.specs.declared.RuleKind.{RuleKind}
use Rattle.wfc_choose.specs.declared.RuleKind.TheVariants as rules
use Rattle.wfc_lines.specs.Outcome.{no_memory_text}
use Rattle.wfc_words.specs.ValueWords.{word_of}
use Rattle.wfc_words.specs.declared.fault.CommandFault.{CommandFault}
use Rattle.wfc_words.specs.declared.fault.CommandFault.TheVariants as faults
use Rattle.wfc_words.specs.declared.fault.ValueName.{ValueName}

-- a value is named by its word
abbrev pub text_of_value : ValueName → List ℕ
text_of_value name = codes "command value " ++ word_of name

-- why the words are no request: they are none of a command, one value is not in its range, or memory ran out
abbrev pub text_of_command : CommandFault → List ℕ
text_of_command faults.Refused = codes "command refused"
text_of_command (faults.Value name) = text_of_value name
text_of_command faults.NoMemory = no_memory_text

-- a rule is named as the words of a command give it
abbrev pub text_of_chooser : RuleKind → List ℕ
text_of_chooser rules.Scanline = codes "chooser missing rule=scanline"
text_of_chooser rules.Fewest = codes "chooser missing rule=fewest"
text_of_chooser rules.Ranked = codes "chooser missing rule=ranked"
