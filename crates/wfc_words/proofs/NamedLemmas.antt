-- What is known of the model and the rule that were read.
use Rattle.std.proofs.Common.{◌≡◌, ◌≢◌, ℕ, Bool, true, false, cond, subst, refl, List, [], Option, None, Some, Ok, codes}
use Rattle.std.specs.Prelude.{unwrap_or}
use Rattle.std.specs.Option.{option_map}
use Rattle.std.specs.Str.{bytes_eq}
use Rattle.clap.specs.Walk.{Row, Text, first_of}
use Rattle.wfc_choose.specs.declared.RuleKind.{RuleKind}
use Rattle.wfc_choose.specs.declared.RuleKind.TheVariants as rules
use Rattle.wfc_words.specs.Commands.{requires_word, word_text}
use Rattle.wfc_words.specs.InRange.{IsModel}
use Rattle.wfc_words.specs.Named.{is_rankable, model_asked, number_in, rule_asked, rule_named, source_of, takes_tiles, rule_without_ranks, model_without_tiles}
use Rattle.wfc_words.specs.ValueWords.{word_of}
use Rattle.wfc_words.specs.Values.{model_value, rule_value, value_in}
use Rattle.wfc_words.specs.declared.fault.ValueName.TheVariants as names
use Rattle.wfc_words.specs.declared.kinds.CommandKind.{CommandKind}
use Rattle.wfc_words.specs.declared.kinds.SourceModel.{SourceModel}
use Rattle.wfc_words.specs.declared.kinds.SourceModel.TheVariants.{Overlap, Tiles}
use Rattle.wfc_words.proofs.ValueLemmas.{in_range-some, number_in-range, word_text-required}

source_of-model : (text : Text) (source : SourceModel) → source_of text ≡ Some source → IsModel source
source_of-model text source is = go (bytes_eq text (codes "tiles")) (number_in 1 6 text) refl is
  where
    go : (tiles : Bool) (read : Option ℕ) → number_in 1 6 text ≡ read → cond tiles (Some Tiles) (option_map (λ n. Overlap n) read) ≡ Some source → IsModel source
    go true read was e = let same : Tiles ≡ source = cc in subst IsModel same tt
    go false None was e = let bad : ⊥ = cc in absurd bad
    go false (Some n) was e = let same : Overlap n ≡ source = cc in subst IsModel same (number_in-range 1 6 n text was)

-- a model that is read for a map without tiles is no model of tiles, and it is one that the text says
untiled-plain : (read : Option SourceModel) (source : SourceModel) → model_without_tiles read ≡ Some source → (read ≡ Some source) × (source ≢ Tiles)
untiled-plain None source is = let bad : ⊥ = cc in absurd bad
untiled-plain (Some Tiles) source is = let bad : ⊥ = cc in absurd bad
untiled-plain (Some (Overlap n)) source is = (is, λ tiles. let bad : ⊥ = cc in absurd bad)

model_asked-named : (kind : CommandKind) (text : Text) (source : SourceModel) → model_asked kind text ≡ Some source → source_of text ≡ Some source
model_asked-named kind text source is = go (takes_tiles kind) is
  where
    go : (tiled : Bool) → cond tiled (source_of text) (model_without_tiles (source_of text)) ≡ Some source → source_of text ≡ Some source
    go true e = e
    go false e = (untiled-plain (source_of text) source e).0

pub model-required : (kind : CommandKind) (rows : List Row) (source : SourceModel) → model_value kind rows ≡ Ok source
    → requires_word kind (word_of names.Model) ≡ true → IsModel source
model-required kind rows source is requires =
    let text = unwrap_or (first_of (word_of names.Model) rows) [] in
    let given : value_in names.Model (model_asked kind) (Overlap 0) (Some text) ≡ Ok source
    = subst (λ (text : Option Text). value_in names.Model (model_asked kind) (Overlap 0) text ≡ Ok source) (word_text-required kind (word_of names.Model) rows requires) is in
    source_of-model text source (model_asked-named kind text source (in_range-some names.Model (model_asked kind text) source given))

pub model-plain : (kind : CommandKind) (rows : List Row) (source : SourceModel) → model_value kind rows ≡ Ok source → takes_tiles kind ≡ false → source ≢ Tiles
model-plain kind rows source is plain = by_text (word_text kind (word_of names.Model) rows) is
  where
    by_text : (text : Option Text) → value_in names.Model (model_asked kind) (Overlap 0) text ≡ Ok source → source ≢ Tiles
    by_text None e tiles = cc
    by_text (Some text) e tiles =
        let named : cond (takes_tiles kind) (source_of text) (model_without_tiles (source_of text)) ≡ Some source = in_range-some names.Model (model_asked kind text) source e in
        (untiled-plain (source_of text) source (subst (λ tiled. cond tiled (source_of text) (model_without_tiles (source_of text)) ≡ Some source) plain named)).1 tiles

-- a rule that is read for runs without ranks doesn't go by ranks
unranked-plain : (read : Option RuleKind) (rule : RuleKind) → rule_without_ranks read ≡ Some rule → rule ≢ rules.Ranked
unranked-plain None rule is ranked = cc
unranked-plain (Some rules.Ranked) rule is ranked = cc
unranked-plain (Some rules.Scanline) rule is ranked = cc
unranked-plain (Some rules.Fewest) rule is ranked = cc

pub rule-plain : (kind : CommandKind) (rows : List Row) (rule : RuleKind) → rule_value kind rows ≡ Ok rule → is_rankable kind ≡ false → rule ≢ rules.Ranked
rule-plain kind rows rule is plain = by_text (word_text kind (word_of names.Rule) rows) is
  where
    by_text : (text : Option Text) → value_in names.Rule (rule_asked kind) rules.Fewest text ≡ Ok rule → rule ≢ rules.Ranked
    by_text None e ranked = cc
    by_text (Some text) e ranked =
        let named : cond (is_rankable kind) (rule_named text) (rule_without_ranks (rule_named text)) ≡ Some rule = in_range-some names.Rule (rule_asked kind text) rule e in
        unranked-plain (rule_named text) rule (subst (λ ranks. cond ranks (rule_named text) (rule_without_ranks (rule_named text)) ≡ Some rule) plain named) ranked
