-- What is asked for is in its ranges.
use Rattle.std.proofs.Common.{◌≡◌, ◌≤◌, ◌+◌, ◌-◌, ℕ, subst, sym, refl, inl, inr, arith, List, [], ◌∷◌, Option, None, Some, Result, Ok, Err, IfOk, true, codes}
use Rattle.std.specs.Prelude.{IsSome}
use Rattle.std.specs.Option.{option_map_or}
use Rattle.std.proofs.Math.Nat.{min-le_left, min-le_right}
use Rattle.std.proofs.lemmas.Bool.{leb-true}
use Rattle.clap.specs.Walk.{Row, Text}
use Rattle.wfc_outside.specs.Gives.{Gives}
use Rattle.wfc_words.specs.Commands.{command_named, requires_word}
use Rattle.wfc_words.specs.InRange.{IsInRange, IsMapInRange, IsModel, IsRaceInRange, IsRunInRange, IsSpaceInRange, IsWritingInRange}
use Rattle.wfc_words.specs.Numbers.{block_range, budget_range, depth_range, format_range, height_range, least_block, number_range, quantum_range, seed_range, seeds_from, seeds_range, symmetry_range, width_range}
use Rattle.wfc_words.specs.Request.{matches_by, request_by, request_found, request_of, request_with}
use Rattle.wfc_words.specs.RequestView.{RequestView}
use Rattle.wfc_words.specs.Values.{values_of}
use Rattle.wfc_words.specs.declared.fault.CommandFault.{CommandFault}
use Rattle.wfc_words.specs.declared.fault.CommandFault.TheVariants.{NoMemory, Refused}
use Rattle.wfc_words.specs.declared.kinds.CommandKind.{CommandKind}
use Rattle.wfc_words.specs.declared.kinds.SourceModel.{SourceModel}
use Rattle.wfc_words.specs.declared.kinds.SourceModel.TheVariants.{Overlap, Tiles}
use Rattle.wfc_words.specs.declared.values.Values.{Values}
use Rattle.wfc_words.proofs.NamedLemmas.{model-plain, model-required, rule-plain}
use Rattle.wfc_words.proofs.ValueLemmas.{number-most, number-least, number-required, before, AreRead, values-read, word_text-required}

-- ---- the ranges of the groups

-- so many seeds are at most eight, and the last fits 64 bits
seeds_from-limits : (seed seeds : ℕ) → seed ≤ 18446744073709551615 → seeds ≤ seeds_from seed
    → (seeds ≤ 8) × (seed + seeds ≤ 18446744073709551616)
seeds_from-limits seed seeds limit most =
    let seven = min-le_left 7 (18446744073709551615 - seed) in
    let left = min-le_right 7 (18446744073709551615 - seed) in
    (omega arith, omega arith)

none-least : (n : ℕ) → 0 ≤ n
none-least n = omega arith

-- a window fits into a block of any size that stands for none
default_block : (source : SourceModel) → IsModel source → least_block source ≤ 512
default_block (Overlap n) model = omega (arith, model.1)
default_block Tiles model = omega arith

module _ (kind : CommandKind) (rows : List Row) (values : Values) (read : AreRead kind rows values) where
  abbrev given : RequestView
  given = request_with kind rows values

  map-in_range : IsMapInRange given
  map-in_range = record {
    model = model-required kind rows values.map.source read.map.source;
    untiled = model-plain kind rows values.map.source read.map.source;
    some_width = number-required kind rows width_range values.map.width read.map.width;
    width_limit = number-most kind rows width_range values.map.width read.map.width (leb-true 0 4096 refl);
    some_height = number-required kind rows height_range values.map.height read.map.height;
    height_limit = number-most kind rows height_range values.map.height read.map.height (leb-true 0 4096 refl);
    some_image = number-least kind rows symmetry_range values.map.symmetry read.map.symmetry (leb-true 1 1 refl);
    eight_images = number-most kind rows symmetry_range values.map.symmetry read.map.symmetry (leb-true 1 8 refl);
  }

  seed-limit : values.run.seed ≤ 18446744073709551615
  seed-limit = number-most kind rows seed_range values.run.seed read.run.seed (none-least _)

  run-in_range : IsRunInRange given
  run-in_range = record {
    seed_limit = seed-limit;
    budget_limit = number-most kind rows budget_range values.run.budget read.run.budget (leb-true 1000000 1000000000 refl);
    unranked = rule-plain kind rows values.run.rule read.run.rule;
  }

  writing-in_range : IsWritingInRange given
  writing-in_range = record {
    number_limit = number-most kind rows number_range values.writing.number read.writing.number (leb-true 0 1000000 refl);
    some_format = number-least kind rows format_range values.writing.format read.writing.format (leb-true 1 2 refl);
    two_formats = number-most kind rows format_range values.writing.format read.writing.format (leb-true 2 2 refl);
    unmasked = read.writing.unmasked;
  }

  race-in_range : IsRaceInRange given
  race-in_range =
      let range = seeds_range values.run.seed in
      let limits = seeds_from-limits values.run.seed values.race.seeds seed-limit
      (number-most kind rows range values.race.seeds read.race.seeds (none-least _)) in
      record {
        some_seeds = number-required kind rows range values.race.seeds read.race.seeds;
        eight_seeds = limits.0;
        seeds_fit = limits.1;
        some_quantum = number-least kind rows quantum_range values.race.quantum read.race.quantum (leb-true 1 1 refl);
        quantum_limit = number-most kind rows quantum_range values.race.quantum read.race.quantum (leb-true 1 1000000 refl);
      }

  space-in_range : IsSpaceInRange given
  space-in_range =
      let range = block_range values.map.source in
      record {
        some_block = λ requires. number-least kind rows range values.space.block read.space.block (default_block values.map.source (map-in_range.model requires));
        block_limit = number-most kind rows range values.space.block read.space.block (leb-true 512 4096 refl);
        some_depth = number-required kind rows depth_range values.space.depth read.space.depth;
        depth_limit = number-most kind rows depth_range values.space.depth read.space.depth (leb-true 0 256 refl);
      }

  pins-given : requires_word kind (codes "pins") ≡ true → IsSome given.pins
  pins-given requires = subst (λ (text : Option Text). IsSome text) (sym (word_text-required kind (codes "pins") rows requires)) refl

  values-in_range : IsInRange given
  values-in_range = record { map = map-in_range; run = run-in_range; writing = writing-in_range; race = race-in_range; space = space-in_range; pins = pins-given }

-- ---- the request

found-in_range : (kind : CommandKind) (rows : List Row) (asked : RequestView) → request_found kind rows ≡ Ok asked → IsInRange asked
found-in_range kind rows asked is =
    let values = before (values_of kind rows) _ asked is in
    let same : request_with kind rows values.0 ≡ asked = cc (values.1.1) in
    subst IsInRange same (values-in_range kind rows values.0 (values-read kind rows values.0 values.1.0))

request_by-in_range : (kind : CommandKind) (words : List Text) (asked : RequestView) → request_by kind words ≡ Ok asked → IsInRange asked
request_by-in_range kind words asked is = let rows = before (matches_by kind words) _ asked is in found-in_range kind rows.0 asked (rows.1.1)

-- what is answered is in its ranges
pub given-in_range : (kind : CommandKind) (words : List Text) (result : Result RequestView CommandFault) → Gives NoMemory (λ asked. asked) result (request_by kind words) → IfOk result IsInRange
given-in_range kind words (Err fault) given = tt
given-in_range kind words (Ok asked) (inl is) = request_by-in_range kind words asked (sym is)
given-in_range kind words (Ok asked) (inr short) = let bad : ⊥ = cc in absurd bad

pub asked-in_range : (words : List Text) (asked : RequestView) → request_of words ≡ Ok asked → IsInRange asked
asked-in_range [] asked is = let bad : ⊥ = cc in absurd bad
asked-in_range (name ∷ words) asked is = go (command_named name) is
  where
    go : (kind : Option CommandKind) → option_map_or (λ k. request_by k words) kind (Err Refused) ≡ Ok asked → IsInRange asked
    go None e = let bad : ⊥ = cc in absurd bad
    go (Some kind) e = request_by-in_range kind words asked e
