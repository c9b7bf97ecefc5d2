-- A request in its ranges asks for what can be grown.
use Rattle.std.proofs.Common.{ap, refl, ◌≡◌, ◌≢◌, ◌≤◌}
use Rattle.wfc_grow_command.specs.GrowGiven.{IsGrowAsked}
use Rattle.wfc_reply.proofs.CallerLemmas.{plain_kind}
use Rattle.wfc_task.proofs.CallerLemmas.{command_source}
use Rattle.wfc_task.specs.Asked.{AskedBy, IsSampleAsked}
use Rattle.wfc_task.specs.Sources.{window_side_of}
use Rattle.wfc_words.specs.Commands.{requires_word}
use Rattle.wfc_words.specs.InRange.{IsInRange}
use Rattle.wfc_words.specs.Named.{is_rankable, takes_tiles}
use Rattle.wfc_words.specs.Numbers.{least_block}
use Rattle.wfc_words.specs.RequestView.{RequestView}
use Rattle.wfc_words.specs.ValueWords.{word_of}
use Rattle.wfc_words.specs.declared.fault.ValueName.TheVariants as names
use Rattle.wfc_words.specs.declared.kinds.CommandKind.TheVariants as commands
use Rattle.wfc_words.specs.declared.kinds.SourceModel.{SourceModel}
use Rattle.wfc_words.specs.declared.kinds.SourceModel.TheVariants.{Overlap, Tiles}

-- what is asked of a sample, where the map isn't one of tiles
of_sample : (asked : RequestView) (source : SourceModel) → source ≢ Tiles → AskedBy source asked → IsSampleAsked asked
of_sample asked (Overlap n) untiled asks = asks
of_sample asked Tiles untiled asks = absurd (untiled refl)

-- and the least block of its map
block_of_sample : (asked : RequestView) (source : SourceModel) → source ≢ Tiles → least_block source ≤ asked.block → window_side_of source ≤ asked.block
block_of_sample asked (Overlap n) untiled least = least
block_of_sample asked Tiles untiled least = absurd (untiled refl)

pub grow_asked : (asked : RequestView) → IsInRange asked → asked.command ≡ commands.Grow → IsGrowAsked asked
grow_asked asked within is =
    let untiled = within.map.untiled (ap takes_tiles is) in
    record {
      sample = of_sample asked asked.source untiled (command_source asked commands.Grow within is refl);
      some_block = block_of_sample asked asked.source untiled (within.space.some_block (ap (λ c. requires_word c (word_of names.Model)) is));
      block_limit = within.space.block_limit;
      plain = plain_kind asked.rule (within.run.unranked (ap is_rankable is));
    }
