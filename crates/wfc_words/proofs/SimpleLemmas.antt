-- The simple command of a row, group by group and word by word.
use Rattle.std.proofs.Common.{◌≡◌, ◌∙◌, ℕ, ◌<◌, ◌≤◌, ◌+◌, true, ap, sym, length, List, [], ◌∷◌, ◌++◌, map, take, append_assoc, add-one, slice_index_or}
use Rattle.std.specs.Borrow.{Bor}
use Rattle.std.specs.List.{flat_map}
use Rattle.std.proofs.lemmas.List.{append-nil, map-append, take_all}
use Rattle.std.proofs.lemmas.List.Concat.{flat_map-append}
use Rattle.std.proofs.lemmas.List.Folds.{flat_map-map}
use Rattle.std.proofs.Math.Seq.{take-suc}
use Rattle.clap.specs.Walk.{Rule, Text}
use Rattle.clap.specs.Simple.{App, app_of, app_of_fields, new_app, with_rule}
use Rattle.clap.specs.declared.builder.command.Command.{Command}
use Rattle.clap.specs.declared.builder.command.Command.TheOpen.{Command-F}
use Rattle.clap.specs.declared.builder.command.Command.TheViews.{out-Command as fields_of}
use Rattle.wfc_words.specs.Commands.{Word, app_of_command, app_with, bare_app, rule_of_word}
use Rattle.wfc_words.specs.Rows.{group_view, row_view, word_view}
use Rattle.wfc_words.specs.declared.groups.Argument.{Argument}
use Rattle.wfc_words.specs.declared.commands.CommandRow.{CommandRow}

-- words behind words
app_with-append : (app : App) (first more : List Word) → app_with (app_with app first) more ≡ app_with app (first ++ more)
app_with-append app first more =
    ap with_rule_list (append_assoc app.top.rules (map rule_of_word first) (map rule_of_word more)
    ∙ ap (λ rules. app.top.rules ++ rules) (sym (map-append rule_of_word first more)))
  where
    with_rule_list : List Rule → App
    with_rule_list rules = record app { top = record app.top { rules = rules } }

-- ---- the words of a group

-- the first words of a group
abbrev pub words_to : List Argument → ℕ → List Word
words_to arguments n = map word_view (take n arguments)

words_to-more : (arguments : List Argument) (i : ℕ) (d : Argument) → i < length arguments
    → words_to arguments i ++ word_view (slice_index_or arguments i d) ∷ [] ≡ words_to arguments (i + 1)
words_to-more arguments i d lt =
    sym (map-append word_view (take i arguments) (slice_index_or arguments i d ∷ []))
    ∙ ap (map word_view) (sym (take-suc arguments i d lt))
    ∙ ap (words_to arguments) (sym (add-one i))

-- one word more
pub app_with-next : (app before after : App) (arguments : List Argument) (i : ℕ) (d : Argument) (rule : Rule) → i < length arguments
    → before ≡ app_with app (words_to arguments i) → rule ≡ rule_of_word (word_view (slice_index_or arguments i d))
    → after ≡ with_rule before rule → after ≡ app_with app (words_to arguments (i + 1))
app_with-next app before after arguments i d rule lt is made more =
    let word = word_view (slice_index_or arguments i d) in
    more ∙ ap (with_rule before) made
    ∙ ap (λ (a : App). app_with a (word ∷ [])) is
    ∙ app_with-append app (words_to arguments i) (word ∷ [])
    ∙ ap (app_with app) (words_to-more arguments i d lt)

-- all words of a group
pub app_with-group : (app end : App) (arguments : List Argument) (i : ℕ) → length arguments ≤ i
    → end ≡ app_with app (words_to arguments i) → end ≡ app_with app (group_view arguments)
app_with-group app end arguments i past is = is ∙ ap (λ xs. app_with app (map word_view xs)) (take_all i arguments past)

-- ---- the groups of a row

-- the words of the first groups
abbrev pub groups_to : List (Bor (List Argument)) → ℕ → List Word
groups_to groups n = flat_map (λ (group : Bor (List Argument)). group_view group.now) (take n groups)

groups_to-more : (groups : List (Bor (List Argument))) (i : ℕ) (d : Bor (List Argument)) → i < length groups
    → groups_to groups i ++ group_view (slice_index_or groups i d).now ≡ groups_to groups (i + 1)
groups_to-more groups i d lt =
    let words : Bor (List Argument) → List Word = λ group. group_view group.now in
    ap (λ more. groups_to groups i ++ more) (sym (append-nil (group_view (slice_index_or groups i d).now)))
    ∙ sym (flat_map-append words (take i groups) (slice_index_or groups i d ∷ []))
    ∙ ap (flat_map words) (sym (take-suc groups i d lt))
    ∙ ap (groups_to groups) (sym (add-one i))

-- one group more
pub app_with-next_group : (app before after : App) (groups : List (Bor (List Argument))) (i : ℕ) (d : Bor (List Argument)) → i < length groups
    → before ≡ app_with app (groups_to groups i) → after ≡ app_with before (group_view (slice_index_or groups i d).now)
    → after ≡ app_with app (groups_to groups (i + 1))
app_with-next_group app before after groups i d lt is more =
    let words = group_view (slice_index_or groups i d).now in
    more ∙ ap (λ (a : App). app_with a words) is
    ∙ app_with-append app (groups_to groups i) words
    ∙ ap (app_with app) (groups_to-more groups i d lt)

-- a new command with help and version switched off, whose words begin at once
abbrev switched : App → App
switched app = record app { top = record app.top { no_binary_name = true; disable_help_flag = true; disable_version_flag = true } }

pub switched-fields : (c0 c1 c2 c3 : Command) (name : Text) → app_of c0 ≡ new_app name → fields_of c1 ≡ record (fields_of c0) { no_binary_name = true }
    → fields_of c2 ≡ record (fields_of c1) { disable_help_flag = true } → fields_of c3 ≡ record (fields_of c2) { disable_version_flag = true }
    → app_of c3 ≡ bare_app name
switched-fields c0 c1 c2 c3 name is one two three =
    ap app_of_fields three ∙ ap (λ (f : Command-F Command). app_of_fields (record f { disable_version_flag = true })) two
    ∙ ap (λ (f : Command-F Command). app_of_fields (record f { disable_help_flag = true; disable_version_flag = true })) one
    ∙ ap switched is

-- all groups of a row
pub app_with-row : (app end : App) (row : CommandRow) (i : ℕ) → length row.groups.now ≤ i → app ≡ bare_app row.name.now
    → end ≡ app_with app (groups_to row.groups.now i) → end ≡ app_of_command (row_view row)
app_with-row app end row i past is last =
    last ∙ ap (λ (a : App). app_with a (groups_to row.groups.now i)) is
    ∙ ap (λ groups. app_with (bare_app row.name.now) (flat_map words groups)) (take_all i row.groups.now past)
    ∙ ap (app_with (bare_app row.name.now)) (sym (flat_map-map (λ (group : List Word). group) words row.groups.now))
  where
    words : Bor (List Argument) → List Word
    words group = group_view group.now
