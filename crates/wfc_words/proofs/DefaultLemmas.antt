-- A request holds the defaults of the words that its command doesn't have.
use Rattle.std.proofs.Common.{◌≡◌, ◌∙◌, ◌||◌, ℕ, Bool, true, false, ap, subst, refl, List, [], ◌∷◌, Option, None, Some, Ok, Err, codes}
use Rattle.std.specs.Prelude.{unwrap_or}
use Rattle.std.specs.Option.{option_map_or}
use Rattle.std.specs.List.{list_any}
use Rattle.std.specs.Str.{bytes_eq}
use Rattle.clap.specs.Walk.{Row, Text}
use Rattle.wfc_choose.specs.declared.RuleKind.TheVariants.{Fewest}
use Rattle.wfc_words.specs.Commands.{Word, choice, command_named, command_row, demand, flag, is_required_word, is_word, needed, requires_word, takes_word, word_text}
use Rattle.wfc_words.specs.Defaults.{HoldsDefaults}
use Rattle.wfc_words.specs.Named.{form_named, model_asked, number_in, rule_asked}
use Rattle.wfc_words.specs.Numbers.{NumberRange, block_range, budget_range, depth_range, format_range, height_range, number_range, quantum_range, seed_range, seeds_range, symmetry_range, width_range}
use Rattle.wfc_words.specs.Request.{is_flag_given, matches_by, request_by, request_found, request_of, request_with}
use Rattle.wfc_words.specs.RequestView.{RequestView}
use Rattle.wfc_words.specs.ValueWords.{word_of}
use Rattle.wfc_words.specs.Values.{number_value, value_in, values_of}
use Rattle.wfc_words.specs.declared.fault.CommandFault.TheVariants.{Refused}
use Rattle.wfc_words.specs.declared.fault.ValueName.{ValueName}
use Rattle.wfc_words.specs.declared.fault.ValueName.TheVariants as names
use Rattle.wfc_words.specs.declared.kinds.CommandKind.{CommandKind}
use Rattle.wfc_words.specs.declared.kinds.SourceModel.TheVariants.{Overlap}
use Rattle.wfc_words.specs.declared.values.Values.{Values}
use Rattle.wfc_words.proofs.ValueLemmas.{AreRead, before, values-read}

-- ---- a word that must be there is a word of the command

or_true : (b : Bool) → (b || true) ≡ true
or_true true = refl
or_true false = refl

-- what passes the narrower test passes the wider
list_any-wider : {X : Type 0} (narrow wide : X → Bool) → ((x : X) → narrow x ≡ true → wide x ≡ true)
    → (xs : List X) → list_any narrow xs ≡ true → list_any wide xs ≡ true
list_any-wider narrow wide passes [] any = let bad : ⊥ = cc in absurd bad
list_any-wider narrow wide passes (x ∷ xs) any = by_first (narrow x) refl any (list_any-wider narrow wide passes xs)
  where
    by_first : (first : Bool) → narrow x ≡ first → (first || list_any narrow xs) ≡ true → (list_any narrow xs ≡ true → list_any wide xs ≡ true)
        → (wide x || list_any wide xs) ≡ true
    by_first true is e rest = ap (λ b. b || list_any wide xs) (passes x is)
    by_first false is e rest = ap (λ b. wide x || b) (rest e) ∙ or_true (wide x)

is_word-required : (name : Text) (word : Word) → is_required_word name word ≡ true → is_word name word ≡ true
is_word-required name (needed text) is = is
is_word-required name (choice text) is = let bad : ⊥ = cc in absurd bad
is_word-required name (demand text) is = is
is_word-required name (flag text) is = let bad : ⊥ = cc in absurd bad

takes_word-required : (kind : CommandKind) (name : Text) → requires_word kind name ≡ true → takes_word kind name ≡ true
takes_word-required kind name requires =
    list_any-wider (λ group. list_any (is_required_word name) group) (λ group. list_any (is_word name) group)
    (λ group any. list_any-wider (is_required_word name) (is_word name) (is_word-required name) group any) (command_row kind).groups requires

-- ---- a word that the command doesn't have has no text, and its value is what stands for none

word_text-absent : (kind : CommandKind) (name : Text) (rows : List Row) → takes_word kind name ≡ false → word_text kind name rows ≡ None
word_text-absent kind name rows lacks = by_required (requires_word kind name) refl
  where
    by_required : (required : Bool) → requires_word kind name ≡ required → word_text kind name rows ≡ None
    by_required true requires = let has = takes_word-required kind name requires in let bad : ⊥ = cc in absurd bad
    by_required false not_required = rw (not_required, lacks) refl

value_in-absent : {X : Type 0} (name : ValueName) (read : Text → Option X) (absent value : X) (kind : CommandKind) (word : Text) (rows : List Row)
    → takes_word kind word ≡ false → value_in name read absent (word_text kind word rows) ≡ Ok value → value ≡ absent
value_in-absent name read absent value kind word rows lacks is =
    let given : Ok absent ≡ Ok value = subst (λ text. value_in name read absent text ≡ Ok value) (word_text-absent kind word rows lacks) is in cc

module _ (kind : CommandKind) (rows : List Row) (values : Values) (read : AreRead kind rows values) where
  -- a number whose word the command doesn't have
  number-absent : (range : NumberRange) (n : ℕ) → number_value kind rows range ≡ Ok n → takes_word kind (word_of range.name) ≡ false → n ≡ range.absent
  number-absent range n is lacks = value_in-absent range.name (number_in range.least range.most) range.absent n kind (word_of range.name) rows lacks is

  has_flag-absent : (name : Text) → takes_word kind name ≡ false → is_flag_given kind name rows ≡ false
  has_flag-absent name lacks = ap (λ text. option_map_or (λ t. bytes_eq t (codes "true")) text false) (word_text-absent kind name rows lacks)

  pub holds_defaults : HoldsDefaults (request_with kind rows values)
  holds_defaults = record {
    file = λ lacks. ap (λ (text : Option Text). unwrap_or text []) (word_text-absent kind (codes "FILE") rows lacks);
    source = λ lacks. value_in-absent names.Model (model_asked kind) (Overlap 0) values.map.source kind (word_of names.Model) rows lacks read.map.source;
    width = number-absent width_range values.map.width read.map.width;
    height = number-absent height_range values.map.height read.map.height;
    symmetry = number-absent symmetry_range values.map.symmetry read.map.symmetry;
    wrap_in = has_flag-absent (codes "wrap-in");
    wrap_out = has_flag-absent (codes "wrap-out");
    pins = word_text-absent kind (codes "pins") rows;
    steps = word_text-absent kind (codes "steps") rows;
    refutation = word_text-absent kind (codes "REFUTATION") rows;
    seed = number-absent seed_range values.run.seed read.run.seed;
    budget = number-absent budget_range values.run.budget read.run.budget;
    rule = λ lacks. value_in-absent names.Rule (rule_asked kind) Fewest values.run.rule kind (word_of names.Rule) rows lacks read.run.rule;
    form = λ lacks. value_in-absent names.Form form_named None values.writing.form kind (word_of names.Form) rows lacks read.writing.form;
    number = number-absent number_range values.writing.number read.writing.number;
    format = number-absent format_range values.writing.format read.writing.format;
    mask = word_text-absent kind (word_of names.Mask) rows;
    seeds = number-absent (seeds_range values.run.seed) values.race.seeds read.race.seeds;
    quantum = number-absent quantum_range values.race.quantum read.race.quantum;
    block = number-absent (block_range values.map.source) values.space.block read.space.block;
    depth = number-absent depth_range values.space.depth read.space.depth;
  }

-- ---- the request

pub asked_defaults : (words : List Text) (asked : RequestView) → request_of words ≡ Ok asked → HoldsDefaults asked
asked_defaults [] asked is = let bad : ⊥ = cc in absurd bad
asked_defaults (name ∷ words) asked is = by_name (command_named name) is
  where
    by_values : (kind : CommandKind) (rows : List Row) → request_found kind rows ≡ Ok asked → HoldsDefaults asked
    by_values kind rows e =
        let values = before (values_of kind rows) _ asked e in
        let same : request_with kind rows values.0 ≡ asked = cc (values.1.1) in
        subst HoldsDefaults same (holds_defaults kind rows values.0 (values-read kind rows values.0 values.1.0))

    by_name : (kind : Option CommandKind) → option_map_or (λ k. request_by k words) kind (Err Refused) ≡ Ok asked → HoldsDefaults asked
    by_name None e = let bad : ⊥ = cc in absurd bad
    by_name (Some kind) e = let rows = before (matches_by kind words) _ asked e in by_values kind rows.0 (rows.1.1)
