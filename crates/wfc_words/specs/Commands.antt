-- The table of the commands, and what `clap` is told of a command.
use Rattle.std.specs.Prelude.{Bool, true, false, List, [], ◌∷◌, ◌++◌, map, codes, Option, Some, None, find, unwrap_or, if◌then◌else◌}
use Rattle.std.specs.List.{flat_map, list_any}
use Rattle.std.specs.Str.{bytes_eq}
use Rattle.clap.specs.Walk.{Row, Rule, Text, first_of}
use Rattle.clap.specs.Simple.{App, new_rule, new_shape}
use Rattle.clap.specs.declared.builder.action.ArgAction.TheVariants.{Set, SetTrue}
use Rattle.wfc_words.specs.ValueWords.{word_of}
use Rattle.wfc_words.specs.declared.fault.ValueName.TheVariants as names
use Rattle.wfc_words.specs.declared.kinds.CommandKind.{CommandKind}
use Rattle.wfc_words.specs.declared.kinds.CommandKind.TheVariants.{Learn, Fill, Domains, Refute, Check, Upgrade, Demo}
use Rattle.wfc_words.specs.declared.kinds.CommandKind.TheVariants.{Race, Explain, Grow, BoxFill, BoxRefute, BoxCheck}

-- a word behind a command's name: a text that must be there, an option with one text, one that must be there, or a flag
pub data Word : Type 0 where
  needed : Text → Word
  choice : Text → Word
  demand : Text → Word
  flag : Text → Word

-- a command's name, and its words by groups that commands share
pub record CommandWords : Type 0 where
  pub name : Text
  pub groups : List (List Word)

-- ---- groups of words

-- the file that a map is made from
abbrev pub file_words : List Word
file_words = needed (codes "FILE") ∷ []

-- the side of a window of a sample, or that the file is a tile set
abbrev pub model_words : List Word
model_words = needed (word_of names.Model) ∷ []

-- the sides of the map
abbrev pub side_words : List Word
side_words = needed (word_of names.Width) ∷ needed (word_of names.Height) ∷ []

-- the layers of a box
abbrev pub layer_words : List Word
layer_words = needed (word_of names.Depth) ∷ []

-- the file of a refutation that is read
abbrev pub refutation_words : List Word
refutation_words = needed (codes "REFUTATION") ∷ []

-- how windows are taken from a sample
abbrev pub sample_words : List Word
sample_words = choice (word_of names.Symmetry) ∷ flag (codes "wrap-in") ∷ []

-- whether the map goes on over its edges
abbrev pub edge_words : List Word
edge_words = flag (codes "wrap-out") ∷ []

-- the file of pins, which may be left out
abbrev pub pin_words : List Word
pin_words = choice (codes "pins") ∷ []

-- the file of pins, which must be there
abbrev pub demanded_pin_words : List Word
demanded_pin_words = demand (codes "pins") ∷ []

-- the file of a tile map's holes
abbrev pub mask_words : List Word
mask_words = choice (word_of names.Mask) ∷ []

-- the file of steps
abbrev pub step_words : List Word
step_words = choice (codes "steps") ∷ []

-- how a run goes
abbrev pub run_words : List Word
run_words = choice (word_of names.Seed) ∷ choice (word_of names.Budget) ∷ choice (word_of names.Rule) ∷ []

-- the form of a written map
abbrev pub form_words : List Word
form_words = choice (word_of names.Form) ∷ []

-- the format of a written refutation
abbrev pub format_words : List Word
format_words = choice (word_of names.Format) ∷ []

-- the number of a demonstration
abbrev pub number_words : List Word
number_words = needed (word_of names.Number) ∷ []

-- how many seeds race, which must be there, and how many turns each makes in a round
abbrev pub race_words : List Word
race_words = demand (word_of names.Seeds) ∷ choice (word_of names.Quantum) ∷ []

-- the side of a block of a large map
abbrev pub block_words : List Word
block_words = choice (word_of names.Block) ∷ []

-- ---- the table

-- a command with its name and its groups
abbrev row : Text → List (List Word) → CommandWords
row name groups = record { name = name; groups = groups }

-- the table: each command with its name and its groups of words
abbrev pub command_row : CommandKind → CommandWords
command_row Learn = row (codes "learn") (file_words ∷ model_words ∷ sample_words ∷ [])
command_row Fill = row (codes "fill")
    (file_words ∷ model_words ∷ side_words ∷ sample_words ∷ edge_words ∷ pin_words ∷ mask_words ∷ run_words ∷ form_words ∷ [])
command_row Domains = row (codes "domains")
    (file_words ∷ model_words ∷ side_words ∷ sample_words ∷ edge_words ∷ pin_words ∷ mask_words ∷ step_words ∷ [])
command_row Refute = row (codes "refute")
    (file_words ∷ model_words ∷ side_words ∷ sample_words ∷ edge_words ∷ pin_words ∷ mask_words ∷ run_words ∷ format_words ∷ [])
command_row Check = row (codes "check")
    (file_words ∷ model_words ∷ side_words ∷ refutation_words ∷ sample_words ∷ edge_words ∷ pin_words ∷ mask_words ∷ [])
command_row Upgrade = row (codes "upgrade")
    (file_words ∷ model_words ∷ side_words ∷ refutation_words ∷ sample_words ∷ edge_words ∷ pin_words ∷ mask_words ∷ [])
command_row Demo = row (codes "demo") (number_words ∷ [])
command_row Race = row (codes "race")
    (file_words ∷ model_words ∷ side_words ∷ sample_words ∷ edge_words ∷ pin_words ∷ mask_words ∷ run_words ∷ race_words ∷ [])
command_row Explain = row (codes "explain")
    (file_words ∷ model_words ∷ side_words ∷ sample_words ∷ edge_words ∷ demanded_pin_words ∷ mask_words
    ∷ run_words ∷ [])
command_row Grow = row (codes "grow")
    (file_words ∷ model_words ∷ side_words ∷ sample_words ∷ pin_words ∷ run_words ∷ form_words ∷ block_words ∷ [])
command_row BoxFill = row (codes "box-fill")
    (file_words ∷ side_words ∷ layer_words ∷ edge_words ∷ pin_words ∷ run_words ∷ form_words ∷ [])
command_row BoxRefute = row (codes "box-refute")
    (file_words ∷ side_words ∷ layer_words ∷ edge_words ∷ pin_words ∷ run_words ∷ format_words ∷ [])
command_row BoxCheck = row (codes "box-check")
    (file_words ∷ side_words ∷ layer_words ∷ refutation_words ∷ edge_words ∷ pin_words ∷ [])

-- all words of a command, group by group
abbrev pub command_words : CommandWords → List Word
command_words command = flat_map (λ group. group) command.groups

-- all commands
abbrev pub commands : List CommandKind
commands = Learn ∷ Fill ∷ Domains ∷ Refute ∷ Check ∷ Upgrade ∷ Demo ∷ Race ∷ Explain
    ∷ Grow ∷ BoxFill ∷ BoxRefute ∷ BoxCheck ∷ []

-- the command that a word names
abbrev pub command_named : Text → Option CommandKind
command_named word = find (λ kind. bytes_eq (command_row kind).name word) commands

-- ---- the words of a command

-- the name of a word
abbrev pub word_name : Word → Text
word_name (needed name) = name
word_name (choice name) = name
word_name (demand name) = name
word_name (flag name) = name

-- whether words that lack this word are refused
abbrev pub is_required : Word → Bool
is_required (needed name) = true
is_required (choice name) = false
is_required (demand name) = true
is_required (flag name) = false

-- whether it is a word of this name
abbrev pub is_word : Text → Word → Bool
is_word name word = bytes_eq (word_name word) name

-- whether it is a word of this name that must be there
abbrev pub is_required_word : Text → Word → Bool
is_required_word name word = if is_required word then is_word name word else false

-- whether a command of these groups has the word
abbrev pub has_word : List (List Word) → Text → Bool
has_word groups name = list_any (λ group. list_any (is_word name) group) groups

-- whether a command of these groups has the word, and it must be there
abbrev pub has_required_word : List (List Word) → Text → Bool
has_required_word groups name = list_any (λ group. list_any (is_required_word name) group) groups

-- whether the command has the word
abbrev pub takes_word : CommandKind → Text → Bool
takes_word kind name = has_word (command_row kind).groups name

-- whether the command has the word, and refuses words that lack it
abbrev pub requires_word : CommandKind → Text → Bool
requires_word kind name = has_required_word (command_row kind).groups name

-- the text of a word among what `clap` found: always one of a word that must be there, since `clap` refuses words that
-- lack it, and none of a word that the command doesn't have
abbrev pub word_text : CommandKind → Text → List Row → Option Text
word_text kind name rows =
    if requires_word kind name then Some (unwrap_or (first_of name rows) [])
    else if takes_word kind name then first_of name rows
    else None

-- ---- what `clap` is told

-- a word as `clap` has it: a required argument of one text, an option of one text, a required one, a flag
abbrev pub rule_of_word : Word → Rule
rule_of_word (needed name) = record (new_rule name) { required = true; action = Some Set }
rule_of_word (choice name) = record (new_rule name) { long = Some name; action = Some Set }
rule_of_word (demand name) = record (new_rule name) { long = Some name; required = true; action = Some Set }
rule_of_word (flag name) = record (new_rule name) { long = Some name; action = Some SetTrue }

-- a command of no words as `clap` has it: help and version are switched off, and the words begin behind its name
abbrev pub bare_app : Text → App
bare_app name = record {
  top = record (new_shape name) { no_binary_name = true; disable_help_flag = true; disable_version_flag = true };
  subs = [];
}

-- a command with these words behind its own
abbrev pub app_with : App → List Word → App
app_with app words = record app { top = record app.top { rules = app.top.rules ++ map rule_of_word words } }

-- a command as `clap` has it, with the words of all its groups
abbrev pub app_of_command : CommandWords → App
app_of_command command = app_with (bare_app command.name) (command_words command)
