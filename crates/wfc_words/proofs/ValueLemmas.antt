-- What is known of values that were read: numbers by their rows, and groups of values.
use Rattle.std.proofs.Common.{◌≡◌, ◌≤◌, ◌&&◌, ℕ, Bool, true, false, cond, ap, subst, refl, arith, List, [], ◌∷◌, Option, None, Some, Result, Ok, Err, nat_le, IfOk}
use Rattle.std.specs.Prelude.{is_some, position, unwrap_or}
use Rattle.std.specs.Result.{result_ok}
use Rattle.std.specs.Str.Parse.{digits_value}
use Rattle.std.proofs.lemmas.Bool.{leb-true}
use Rattle.clap.specs.Walk.{Row, Text, first_of}
use Rattle.wfc_text.specs.Number.{is_other, number_of, unless_at, within}
use Rattle.wfc_text.specs.declared.numeral.NumberFault.{NumberFault}
use Rattle.wfc_text.specs.declared.numeral.NumberFault.TheVariants.{OutOfRange}
use Rattle.wfc_words.specs.Commands.{requires_word, word_text}
use Rattle.wfc_words.specs.Named.{number_in}
use Rattle.wfc_words.specs.Numbers.{NumberRange, block_range, budget_range, depth_range, format_range, height_range, number_range, quantum_range, seed_range, seeds_range, symmetry_range, width_range}
use Rattle.wfc_words.specs.ValueWords.{word_of}
use Rattle.wfc_words.specs.Values.{form_value, in_range, is_sample, map_values, model_value, number_value, race_values, rule_value, run_values, space_values, unless_masked, value_in, values_of, with_value, writing_values}
use Rattle.wfc_words.specs.declared.fault.CommandFault.{CommandFault}
use Rattle.wfc_words.specs.declared.fault.CommandFault.TheVariants.{Value}
use Rattle.wfc_words.specs.declared.fault.ValueName.{ValueName}
use Rattle.wfc_words.specs.declared.fault.ValueName.TheVariants as names
use Rattle.wfc_words.specs.declared.kinds.CommandKind.{CommandKind}
use Rattle.wfc_words.specs.declared.kinds.SourceModel.{SourceModel}
use Rattle.wfc_words.specs.declared.values.MapValues.{MapValues}
use Rattle.wfc_words.specs.declared.values.RaceValues.{RaceValues}
use Rattle.wfc_words.specs.declared.values.RunValues.{RunValues}
use Rattle.wfc_words.specs.declared.values.SpaceValues.{SpaceValues}
use Rattle.wfc_words.specs.declared.values.Values.{Values}
use Rattle.wfc_words.specs.declared.values.WritingValues.{WritingValues}

-- ---- numbers

within-range : (m least most n : ℕ) → within m least most ≡ Ok n → (least ≤ n) × (n ≤ most)
within-range m least most n is = go (nat_le least m) (nat_le m most) refl refl is
  where
    go : (a b : Bool) → nat_le least m ≡ a → nat_le m most ≡ b → cond (a && b) (Ok m) (Err OutOfRange) ≡ Ok n → (least ≤ n) × (n ≤ most)
    go true true low high e =
        let same : m ≡ n = cc in
        let some : least ≤ m = leb-true least m low in
        let limit : m ≤ most = leb-true m most high in
        (omega arith, omega arith)
    go true false low high e = let bad : ⊥ = cc in absurd bad
    go false b low high e = let bad : ⊥ = cc in absurd bad

number_of-range : (text : Text) (least most n : ℕ) → number_of text least most ≡ Ok n → (least ≤ n) × (n ≤ most)
number_of-range [] least most n is = let bad : ⊥ = cc in absurd bad
number_of-range (byte ∷ bytes) least most n is = go (position is_other (byte ∷ bytes)) is
  where
    go : (o : Option ℕ) → unless_at o (within (digits_value 10 (byte ∷ bytes)) least most) ≡ Ok n → (least ≤ n) × (n ≤ most)
    go None e = within-range (digits_value 10 (byte ∷ bytes)) least most n e
    go (Some at) e = let bad : ⊥ = cc in absurd bad

-- a value that was read is what the text says
pub in_range-some : {X : Type 0} (name : ValueName) (read : Option X) (value : X) → in_range name read ≡ Ok value → read ≡ Some value
in_range-some name (Some x) value is = let same : x ≡ value = cc in ap Some same
in_range-some name None value is = let bad : ⊥ = cc in absurd bad

pub number_in-range : (least most n : ℕ) (text : Text) → number_in least most text ≡ Some n → (least ≤ n) × (n ≤ most)
number_in-range least most n text is = go (number_of text least most) refl is
  where
    go : (r : Result ℕ NumberFault) → number_of text least most ≡ r → result_ok r ≡ Some n → (least ≤ n) × (n ≤ most)
    go (Ok m) was e = let same : m ≡ n = cc in number_of-range text least most n (subst (λ k. number_of text least most ≡ Ok k) same was)
    go (Err fault) was e = let bad : ⊥ = cc in absurd bad

-- a number that was given is in its range
number-given : (name : ValueName) (least most absent n : ℕ) (text : Text) → value_in name (number_in least most) absent (Some text) ≡ Ok n → (least ≤ n) × (n ≤ most)
number-given name least most absent n text is = number_in-range least most n text (in_range-some name (number_in least most text) n is)

-- and so is what stands for it
most-in : (name : ValueName) (least most absent n : ℕ) (text : Option Text) → absent ≤ most → value_in name (number_in least most) absent text ≡ Ok n → n ≤ most
most-in name least most absent n None limit is = let same : absent ≡ n = cc in omega arith
most-in name least most absent n (Some text) limit is = (number-given name least most absent n text is).1

least-in : (name : ValueName) (least most absent n : ℕ) (text : Option Text) → least ≤ absent → value_in name (number_in least most) absent text ≡ Ok n → least ≤ n
least-in name least most absent n None some is = let same : absent ≡ n = cc in omega arith
least-in name least most absent n (Some text) some is = (number-given name least most absent n text is).0

-- a word that must be there has a text
pub word_text-required : (kind : CommandKind) (word : Text) (rows : List Row) → requires_word kind word ≡ true → word_text kind word rows ≡ Some (unwrap_or (first_of word rows) [])
word_text-required kind word rows requires = rw requires refl

-- a row of the table, and the number that was read by it
module _ (kind : CommandKind) (rows : List Row) (range : NumberRange) (n : ℕ) (is : number_value kind rows range ≡ Ok n) where
  pub number-most : range.absent ≤ range.most → n ≤ range.most
  number-most limit = most-in range.name range.least range.most range.absent n (word_text kind (word_of range.name) rows) limit is

  pub number-least : range.least ≤ range.absent → range.least ≤ n
  number-least some = least-in range.name range.least range.most range.absent n (word_text kind (word_of range.name) rows) some is

  pub number-required : requires_word kind (word_of range.name) ≡ true → range.least ≤ n
  number-required requires =
      (number-given range.name range.least range.most range.absent n (unwrap_or (first_of (word_of range.name) rows) [])
      (subst (λ text. value_in range.name (number_in range.least range.most) range.absent text ≡ Ok n) (word_text-required kind (word_of range.name) rows requires) is)).0

-- ---- groups of values

-- the value before what follows from it
pub before : {X Y : Type 0} (r : Result X CommandFault) (next : X → Result Y CommandFault) (y : Y) → with_value r next ≡ Ok y → (x : X) × ((r ≡ Ok x) × (next x ≡ Ok y))
before (Ok x) next y is = (x, (refl, is))
before (Err fault) next y is = let bad : ⊥ = cc in absurd bad

module _ (kind : CommandKind) (rows : List Row) where
  -- the values of a map as they are read
  pub record IsMapRead (values : MapValues) : Type 0 where
    pub source : model_value kind rows ≡ Ok values.source
    pub width : number_value kind rows width_range ≡ Ok values.width
    pub height : number_value kind rows height_range ≡ Ok values.height
    pub symmetry : number_value kind rows symmetry_range ≡ Ok values.symmetry

  map-read : (values : MapValues) → map_values kind rows ≡ Ok values → IsMapRead values
  map-read values is =
      let source = before (model_value kind rows) _ values is in
      let width = before (number_value kind rows width_range) _ values (source.1.1) in
      let height = before (number_value kind rows height_range) _ values (width.1.1) in
      let symmetry = before (number_value kind rows symmetry_range) _ values (height.1.1) in
      subst (λ (r : Result MapValues CommandFault). IfOk r IsMapRead) (symmetry.1.1)
      (record { source = source.1.0; width = width.1.0; height = height.1.0; symmetry = symmetry.1.0 })

  pub record IsRunRead (values : RunValues) : Type 0 where
    pub seed : number_value kind rows seed_range ≡ Ok values.seed
    pub budget : number_value kind rows budget_range ≡ Ok values.budget
    pub rule : rule_value kind rows ≡ Ok values.rule

  run-read : (values : RunValues) → run_values kind rows ≡ Ok values → IsRunRead values
  run-read values is =
      let seed = before (number_value kind rows seed_range) _ values is in
      let budget = before (number_value kind rows budget_range) _ values (seed.1.1) in
      let rule = before (rule_value kind rows) _ values (budget.1.1) in
      subst (λ (r : Result RunValues CommandFault). IfOk r IsRunRead) (rule.1.1)
      (record { seed = seed.1.0; budget = budget.1.0; rule = rule.1.0 })

  pub record IsWritingRead (source : SourceModel) (values : WritingValues) : Type 0 where
    pub form : form_value kind rows ≡ Ok values.form
    pub number : number_value kind rows number_range ≡ Ok values.number
    pub format : number_value kind rows format_range ≡ Ok values.format
    pub unmasked : is_sample source ≡ true → word_text kind (word_of names.Mask) rows ≡ None

  unless_masked-same : (source : SourceModel) (values given : WritingValues) → unless_masked kind rows source values ≡ Ok given → values ≡ given
  unless_masked-same source values given is = go (is_sample source && is_some (word_text kind (word_of names.Mask) rows)) is
    where
      go : (refused : Bool) → cond refused (Err (Value names.Mask)) (Ok values) ≡ Ok given → values ≡ given
      go true e = let bad : ⊥ = cc in absurd bad
      go false e = cc

  -- windows of a sample have no mask
  unless_masked-none : (source : SourceModel) (values given : WritingValues) → unless_masked kind rows source values ≡ Ok given
      → is_sample source ≡ true → word_text kind (word_of names.Mask) rows ≡ None
  unless_masked-none source values given is sample = go (is_sample source) (word_text kind (word_of names.Mask) rows) refl sample is
    where
      go : (sampled : Bool) (text : Option Text) → word_text kind (word_of names.Mask) rows ≡ text → sampled ≡ true
          → cond (sampled && is_some text) (Err (Value names.Mask)) (Ok values) ≡ Ok given → word_text kind (word_of names.Mask) rows ≡ None
      go true None was s e = was
      go true (Some text) was s e = let bad : ⊥ = cc in absurd bad
      go false text was s e = let bad : ⊥ = cc in absurd bad

  writing-read : (source : SourceModel) (values : WritingValues) → writing_values kind rows source ≡ Ok values → IsWritingRead source values
  writing-read source values is =
      let form = before (form_value kind rows) _ values is in
      let number = before (number_value kind rows number_range) _ values (form.1.1) in
      let format = before (number_value kind rows format_range) _ values (number.1.1) in
      let written : WritingValues = record { form = form.0; number = number.0; format = format.0 } in
      subst (IsWritingRead source) (unless_masked-same source written values (format.1.1)) (record {
        form = form.1.0;
        number = number.1.0;
        format = format.1.0;
        unmasked = unless_masked-none source written values (format.1.1);
      })

  pub record IsRaceRead (seed : ℕ) (values : RaceValues) : Type 0 where
    pub seeds : number_value kind rows (seeds_range seed) ≡ Ok values.seeds
    pub quantum : number_value kind rows quantum_range ≡ Ok values.quantum

  race-read : (seed : ℕ) (values : RaceValues) → race_values kind rows seed ≡ Ok values → IsRaceRead seed values
  race-read seed values is =
      let seeds = before (number_value kind rows (seeds_range seed)) _ values is in
      let quantum = before (number_value kind rows quantum_range) _ values (seeds.1.1) in
      subst (λ (r : Result RaceValues CommandFault). IfOk r (IsRaceRead seed)) (quantum.1.1)
      (record { seeds = seeds.1.0; quantum = quantum.1.0 })

  pub record IsSpaceRead (source : SourceModel) (values : SpaceValues) : Type 0 where
    pub block : number_value kind rows (block_range source) ≡ Ok values.block
    pub depth : number_value kind rows depth_range ≡ Ok values.depth

  space-read : (source : SourceModel) (values : SpaceValues) → space_values kind rows source ≡ Ok values → IsSpaceRead source values
  space-read source values is =
      let block = before (number_value kind rows (block_range source)) _ values is in
      let depth = before (number_value kind rows depth_range) _ values (block.1.1) in
      subst (λ (r : Result SpaceValues CommandFault). IfOk r (IsSpaceRead source)) (depth.1.1)
      (record { block = block.1.0; depth = depth.1.0 })

  pub record AreRead (values : Values) : Type 0 where
    pub map : IsMapRead values.map
    pub run : IsRunRead values.run
    pub writing : IsWritingRead values.map.source values.writing
    pub race : IsRaceRead values.run.seed values.race
    pub space : IsSpaceRead values.map.source values.space

  pub values-read : (values : Values) → values_of kind rows ≡ Ok values → AreRead values
  values-read values is =
      let map = before (map_values kind rows) _ values is in
      let run = before (run_values kind rows) _ values (map.1.1) in
      let writing = before (writing_values kind rows map.0.source) _ values (run.1.1) in
      let race = before (race_values kind rows run.0.seed) _ values (writing.1.1) in
      let space = before (space_values kind rows map.0.source) _ values (race.1.1) in
      subst (λ (r : Result Values CommandFault). IfOk r AreRead) (space.1.1) (record {
        map = map-read map.0 map.1.0;
        run = run-read run.0 run.1.0;
        writing = writing-read map.0.source writing.0 writing.1.0;
        race = race-read run.0.seed race.0 race.1.0;
        space = space-read map.0.source space.0 space.1.0;
      })
