use Rattle.std.proofs.Common.{arith}
use Rattle.clap.specs.Simple.{app_of}
use Rattle.wfc_words.proofs.SimpleLemmas.{app_with-next_group, app_with-row, switched-fields}
use Rattle.wfc_words.proofs.simple.simple.Goals as goal

pub loop-group-preserved : goal.loop-group-preserved
loop-group-preserved c =
    app_with-next_group _ (app_of c.loop-group.command) _ c.args.row.groups.now c.loop-group.group-index _ (omega arith)
    c.loop-group.invariant c.in_ok-command.ensures.app

pub returns : goal.returns
returns c =
    let made = switched-fields c.new.result c.no_binary_name.result c.disable_help_flag.result c.disable_version_flag-command.result c.args.row.name.now
    c.new.ensures.app c.no_binary_name.ensures c.disable_help_flag.ensures c.disable_version_flag-command.ensures in
    record { app = app_with-row _ _ c.args.row c.loop-group.group-index (omega arith) made c.loop-group.invariant }
