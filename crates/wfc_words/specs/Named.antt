-- The values that are no numbers, by their texts.
use Rattle.std.specs.Prelude.{ℕ, Bool, true, false, Option, None, Some, codes, if◌then◌else◌}
use Rattle.std.specs.Option.{option_map}
use Rattle.std.specs.Result.{result_ok}
use Rattle.std.specs.Str.{bytes_eq}
use Rattle.clap.specs.Walk.{Text}
use Rattle.wfc_text.specs.Number.{number_of}
use Rattle.wfc_choose.specs.declared.RuleKind.{RuleKind}
use Rattle.wfc_choose.specs.declared.RuleKind.TheVariants as rules
use Rattle.wfc_render.specs.declared.form.Form.{Form}
use Rattle.wfc_render.specs.declared.form.Form.TheVariants as forms
use Rattle.wfc_words.specs.declared.kinds.CommandKind.{CommandKind}
use Rattle.wfc_words.specs.declared.kinds.CommandKind.TheVariants.{Explain, Grow, Race}
use Rattle.wfc_words.specs.declared.kinds.SourceModel.{SourceModel}
use Rattle.wfc_words.specs.declared.kinds.SourceModel.TheVariants.{Overlap, Tiles}

-- the number from `least` to `most` that a text writes in decimal digits
abbrev pub number_in : ℕ → ℕ → Text → Option ℕ
number_in least most text = result_ok (number_of text least most)

-- the model: the side of a window, or the word `tiles`
abbrev pub source_of : Text → Option SourceModel
source_of text = if bytes_eq text (codes "tiles") then Some Tiles else option_map (λ n. Overlap n) (number_in 1 6 text)

-- whether the command's map, if it has one, may be made of tiles; one that grows block by block is made of windows
abbrev pub takes_tiles : CommandKind → Bool
takes_tiles Grow = false
takes_tiles _ = true

-- the model, if it isn't that of tiles
abbrev pub model_without_tiles : Option SourceModel → Option SourceModel
model_without_tiles (Some Tiles) = None
model_without_tiles source = source

-- the model that a text says, of those that the command's map may have
abbrev pub model_asked : CommandKind → Text → Option SourceModel
model_asked kind text = if takes_tiles kind then source_of text else model_without_tiles (source_of text)

-- the rule that a text names
abbrev pub rule_named : Text → Option RuleKind
rule_named text =
    if bytes_eq text (codes "scanline") then Some rules.Scanline
    else if bytes_eq text (codes "fewest") then Some rules.Fewest
    else if bytes_eq text (codes "ranked") then Some rules.Ranked
    else None

-- whether the command's runs, if it has any, may have the rule that goes by ranks; two choosers of it may differ in their
-- ranks, so a command of several runs has another rule
abbrev pub is_rankable : CommandKind → Bool
is_rankable Race = false
is_rankable Explain = false
is_rankable Grow = false
is_rankable _ = true

-- the rule, if it doesn't go by ranks
abbrev pub rule_without_ranks : Option RuleKind → Option RuleKind
rule_without_ranks (Some rules.Ranked) = None
rule_without_ranks rule = rule

-- the rule that a text names, of those that the command's runs may have
abbrev pub rule_asked : CommandKind → Text → Option RuleKind
rule_asked kind text = if is_rankable kind then rule_named text else rule_without_ranks (rule_named text)

-- the form that a text names, as a form that is asked for
abbrev pub form_named : Text → Option (Option Form)
form_named text =
    if bytes_eq text (codes "p6") then Some (Some forms.P6)
    else if bytes_eq text (codes "p3") then Some (Some forms.P3)
    else if bytes_eq text (codes "grid") then Some (Some forms.Grid)
    else if bytes_eq text (codes "cells") then Some (Some forms.Cells)
    else None
