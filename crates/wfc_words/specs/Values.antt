-- The values among the words, each in its range, read by groups in the order of their names.
use Rattle.std.specs.Prelude.{ℕ, Bool, true, false, ◌&&◌, List, Option, None, Some, Result, Ok, Err, is_some, if◌then◌else◌}
use Rattle.clap.specs.Walk.{Row, Text}
use Rattle.wfc_choose.specs.declared.RuleKind.{RuleKind}
use Rattle.wfc_choose.specs.declared.RuleKind.TheVariants.{Fewest}
use Rattle.wfc_render.specs.declared.form.Form.{Form}
use Rattle.wfc_words.specs.Commands.{word_text}
use Rattle.wfc_words.specs.Named.{form_named, model_asked, number_in, rule_asked}
use Rattle.wfc_words.specs.Numbers.{NumberRange, block_range, budget_range, depth_range, format_range, height_range}
use Rattle.wfc_words.specs.Numbers.{number_range, quantum_range, seed_range, seeds_range, symmetry_range, width_range}
use Rattle.wfc_words.specs.ValueWords.{word_of}
use Rattle.wfc_words.specs.declared.fault.CommandFault.{CommandFault}
use Rattle.wfc_words.specs.declared.fault.CommandFault.TheVariants.{Value}
use Rattle.wfc_words.specs.declared.fault.ValueName.{ValueName}
use Rattle.wfc_words.specs.declared.fault.ValueName.TheVariants as names
use Rattle.wfc_words.specs.declared.kinds.CommandKind.{CommandKind}
use Rattle.wfc_words.specs.declared.kinds.SourceModel.{SourceModel}
use Rattle.wfc_words.specs.declared.kinds.SourceModel.TheVariants.{Overlap, Tiles}
use Rattle.wfc_words.specs.declared.values.MapValues.{MapValues}
use Rattle.wfc_words.specs.declared.values.RaceValues.{RaceValues}
use Rattle.wfc_words.specs.declared.values.RunValues.{RunValues}
use Rattle.wfc_words.specs.declared.values.SpaceValues.{SpaceValues}
use Rattle.wfc_words.specs.declared.values.Values.{Values}
use Rattle.wfc_words.specs.declared.values.WritingValues.{WritingValues}

-- ---- one value

-- the value, or the fault that it isn't in its range
abbrev pub in_range : {X : Type 0} → ValueName → Option X → Result X CommandFault
in_range name (Some value) = Ok value
in_range name None = Err (Value name)

-- the value that a text says, or what stands for it where there is no text
abbrev pub value_in : {X : Type 0} → ValueName → (Text → Option X) → X → Option Text → Result X CommandFault
value_in name read absent None = Ok absent
value_in name read absent (Some text) = in_range name (read text)

-- the number that a row of the table names, or the fault that it is outside of its range
abbrev pub number_value : CommandKind → List Row → NumberRange → Result ℕ CommandFault
number_value kind rows range =
    value_in range.name (number_in range.least range.most) range.absent (word_text kind (word_of range.name) rows)

-- what the map is made from, windows of a sample or a tile set, or the fault of its word; a command without that word
-- has windows of side 0
abbrev pub model_value : CommandKind → List Row → Result SourceModel CommandFault
model_value kind rows = value_in names.Model (model_asked kind) (Overlap 0) (word_text kind (word_of names.Model) rows)

-- by which rule a cell is picked, or the fault of its word; where it is missing, that of the fewest values
abbrev pub rule_value : CommandKind → List Row → Result RuleKind CommandFault
rule_value kind rows = value_in names.Rule (rule_asked kind) Fewest (word_text kind (word_of names.Rule) rows)

-- the form that is asked for, if any is
abbrev pub form_value : CommandKind → List Row → Result (Option Form) CommandFault
form_value kind rows = value_in names.Form form_named None (word_text kind (word_of names.Form) rows)

-- ---- groups of values, and all of them

-- what follows from the value, if it is in its range
abbrev pub with_value : {X Y : Type 0} → Result X CommandFault → (X → Result Y CommandFault) → Result Y CommandFault
with_value (Ok value) next = next value
with_value (Err fault) next = Err fault

-- the values of a map, or the first that isn't in its range
abbrev pub map_values : CommandKind → List Row → Result MapValues CommandFault
map_values kind rows =
    with_value (model_value kind rows) (λ source.
    with_value (number_value kind rows width_range) (λ width.
    with_value (number_value kind rows height_range) (λ height.
    with_value (number_value kind rows symmetry_range) (λ symmetry.
    Ok (record { source = source; width = width; height = height; symmetry = symmetry })))))

-- the values of a run
abbrev pub run_values : CommandKind → List Row → Result RunValues CommandFault
run_values kind rows =
    with_value (number_value kind rows seed_range) (λ seed.
    with_value (number_value kind rows budget_range) (λ budget.
    with_value (rule_value kind rows) (λ rule.
    Ok (record { seed = seed; budget = budget; rule = rule }))))

-- whether the source is a sample
abbrev pub is_sample : SourceModel → Bool
is_sample (Overlap n) = true
is_sample Tiles = false

-- the same, where there is no mask or the source isn't a sample: a mask is for tile maps alone
abbrev pub unless_masked : {X : Type 0} → CommandKind → List Row → SourceModel → X → Result X CommandFault
unless_masked kind rows source value =
    if is_sample source && is_some (word_text kind (word_of names.Mask) rows) then Err (Value names.Mask) else Ok value

-- what is written, and how; behind it the mask, which is a name and is at fault by the source alone
abbrev pub writing_values : CommandKind → List Row → SourceModel → Result WritingValues CommandFault
writing_values kind rows source =
    with_value (form_value kind rows) (λ form.
    with_value (number_value kind rows number_range) (λ number.
    with_value (number_value kind rows format_range) (λ format.
    unless_masked kind rows source (record { form = form; number = number; format = format }))))

-- the values of a race, whose first seed is this one
abbrev pub race_values : CommandKind → List Row → ℕ → Result RaceValues CommandFault
race_values kind rows seed =
    with_value (number_value kind rows (seeds_range seed)) (λ seeds.
    with_value (number_value kind rows quantum_range) (λ quantum.
    Ok (record { seeds = seeds; quantum = quantum })))

-- the values of blocks and boxes, of a map of this source
abbrev pub space_values : CommandKind → List Row → SourceModel → Result SpaceValues CommandFault
space_values kind rows source =
    with_value (number_value kind rows (block_range source)) (λ block.
    with_value (number_value kind rows depth_range) (λ depth.
    Ok (record { block = block; depth = depth })))

-- all values, or the first that isn't in its range
abbrev pub values_of : CommandKind → List Row → Result Values CommandFault
values_of kind rows =
    with_value (map_values kind rows) (λ map.
    with_value (run_values kind rows) (λ run.
    with_value (writing_values kind rows map.source) (λ writing.
    with_value (race_values kind rows run.seed) (λ race.
    with_value (space_values kind rows map.source) (λ space.
    Ok (record { map = map; run = run; writing = writing; race = race; space = space }))))))
