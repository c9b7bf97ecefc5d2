-- What a request in its ranges asks for, by its command.
use Rattle.std.proofs.Common.{ap, arith, refl, true, ◌∙◌, ◌≡◌}
use Rattle.std.specs.Prelude.{codes}
use Rattle.wfc_task.specs.Asked.{AskedBy, IsOutputAsked, IsSourceAsked}
use Rattle.wfc_task.specs.Sources.{window_side_of}
use Rattle.wfc_words.specs.Commands.{requires_word}
use Rattle.wfc_words.specs.InRange.{IsInRange, IsModel}
use Rattle.wfc_words.specs.RequestView.{RequestView}
use Rattle.wfc_words.specs.declared.kinds.CommandKind.{CommandKind}
use Rattle.wfc_words.specs.declared.kinds.SourceModel.{SourceModel}
use Rattle.wfc_words.specs.declared.kinds.SourceModel.TheVariants.{Overlap, Tiles}

-- a command with a model
pub source_asked : (asked : RequestView) → IsInRange asked → requires_word asked.command (codes "MODEL") ≡ true → IsSourceAsked asked
source_asked asked range takes = by_source asked.source refl (range.map.model takes)
  where
    by_source : (source : SourceModel) → asked.source ≡ source → IsModel source → AskedBy source asked
    by_source (Overlap n) is model =
        let same : window_side_of asked.source ≡ n = ap window_side_of is in
        record { some_side = omega (arith, same, model.0); small_side = omega (arith, same, model.1); some_image = range.map.some_image; eight_images = range.map.eight_images }
    by_source Tiles is model = tt

-- a command with the sides of a map
pub output_asked : (asked : RequestView) → IsInRange asked → requires_word asked.command (codes "WIDTH") ≡ true → requires_word asked.command (codes "HEIGHT") ≡ true → IsOutputAsked asked
output_asked asked range wide high =
    record { some_width = range.map.some_width wide; some_height = range.map.some_height high; width_limit = range.map.width_limit; height_limit = range.map.height_limit }

-- a command that has a model asks for what can be learned
pub command_source : (asked : RequestView) (command : CommandKind) → IsInRange asked → asked.command ≡ command → requires_word command (codes "MODEL") ≡ true → IsSourceAsked asked
command_source asked command within is takes = source_asked asked within (ap (λ c. requires_word c (codes "MODEL")) is ∙ takes)

-- a command that has sides has them in range
pub command_output : (asked : RequestView) (command : CommandKind) → IsInRange asked → asked.command ≡ command → requires_word command (codes "WIDTH") ≡ true → requires_word command (codes "HEIGHT") ≡ true → IsOutputAsked asked
command_output asked command within is wide high = output_asked asked within (ap (λ c. requires_word c (codes "WIDTH")) is ∙ wide) (ap (λ c. requires_word c (codes "HEIGHT")) is ∙ high)
