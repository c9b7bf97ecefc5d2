-- The tables in the code as the definitions see them.
use Rattle.std.specs.Prelude.{Bool, List, map}
use Rattle.std.specs.List.{list_any}
use Rattle.wfc_words.specs.Commands.{CommandWords, Word, needed, choice, demand, flag}
use Rattle.wfc_words.specs.Numbers.{NumberRange}
use Rattle.wfc_words.specs.declared.groups.Argument.{Argument}
use Rattle.wfc_words.specs.declared.groups.Argument.TheVariants.{Required, Choice, Demand, Flag}
use Rattle.wfc_words.specs.declared.commands.CommandRow.{CommandRow}
use Rattle.wfc_words.specs.declared.numbers.NumberRow.{NumberRow}

-- a word without where its name lies
abbrev pub word_view : Argument → Word
word_view (Required name) = needed name.now
word_view (Choice name) = choice name.now
word_view (Demand name) = demand name.now
word_view (Flag name) = flag name.now

-- a group without where its words lie
abbrev pub group_view : List Argument → List Word
group_view arguments = map word_view arguments

-- whether some word of the group passes the test
abbrev pub some_word : (Word → Bool) → List Argument → Bool
some_word test arguments = list_any (λ argument. test (word_view argument)) arguments

-- a row without where its texts lie
abbrev pub row_view : CommandRow → CommandWords
row_view row = record { name = row.name.now; groups = map (λ group. group_view group.now) row.groups.now }

-- a number's row
abbrev pub range_view : NumberRow → NumberRange
range_view row = record { name = row.name; least = row.least; most = row.most; absent = row.absent }
