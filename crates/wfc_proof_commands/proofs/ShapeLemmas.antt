-- The shape of a request is one.
use Rattle.std.proofs.Common.{List, ap, arith, refl, ◌≡◌}
use Rattle.wfc_outside.specs.Folder.{File}
use Rattle.wfc_proof.specs.Heads.{IsShape}
use Rattle.wfc_proof_commands.specs.Checking.{shape_by, shape_asked}
use Rattle.wfc_reply.specs.Asking.{IsCommand}
use Rattle.wfc_reply.specs.Call.{Call}
use Rattle.wfc_task.proofs.CallerLemmas.{TakesSides, command_output, command_source}
use Rattle.wfc_task.specs.Asked.{AskedBy, IsOutputAsked, IsSourceAsked}
use Rattle.wfc_task.specs.Sources.{window_side_of}
use Rattle.wfc_words.proofs.RangeLemmas.{asked-in_range}
use Rattle.wfc_words.specs.RequestView.{RequestView}
use Rattle.wfc_words.specs.declared.kinds.CommandKind.{CommandKind}
use Rattle.wfc_words.specs.declared.kinds.SourceModel.{SourceModel}
use Rattle.wfc_words.specs.declared.kinds.SourceModel.TheVariants.{Overlap, Tiles}

asked_shape : (asked : RequestView) → IsSourceAsked asked → IsOutputAsked asked → IsShape (shape_asked asked)
asked_shape asked asks size = by_source asked.source refl asks
  where
    by_source : (source : SourceModel) → asked.source ≡ source → AskedBy source asked → IsShape (shape_by source asked)
    by_source (Overlap n) is asks = record {
      n = omega (arith, asks.small_side, ap window_side_of is);
      width = omega (arith, size.width_limit);
      height = omega (arith, size.height_limit);
      depth = omega arith;
      symmetry = omega (arith, asks.eight_images);
    }
    by_source Tiles is asks = record {
      n = omega arith;
      width = omega (arith, size.width_limit);
      height = omega (arith, size.height_limit);
      depth = omega arith;
      symmetry = omega arith;
    }

-- and its shape is one
pub command_shape : (command : CommandKind) (call : Call) (asked : RequestView) (files : List File) → TakesSides command → IsCommand command call asked files → IsShape (shape_asked asked)
command_shape command call asked files has is =
    let range = asked-in_range call.words asked is.given.spelled in
    asked_shape asked (command_source asked command range is.command_is has.model) (command_output asked command range is.command_is has.width has.height)
