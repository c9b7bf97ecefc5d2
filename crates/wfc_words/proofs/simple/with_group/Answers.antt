use Rattle.std.proofs.Common.{arith}
use Rattle.clap.specs.Simple.{app_of}
use Rattle.clap.specs.Walk.{rule_of}
use Rattle.wfc_words.proofs.SimpleLemmas.{app_with-group, app_with-next}
use Rattle.wfc_words.proofs.simple.with_group.Goals as goal

pub loop-argument-preserved : goal.loop-argument-preserved
loop-argument-preserved c =
    let e = c.arg.ensures in
    let a = c.in_ok-grown.ensures in
    app_with-next _ (app_of c.loop-argument.grown) _ c.args.group.now c.loop-argument.argument-index _ (rule_of c.arg.result) (omega arith)
    c.loop-argument.invariant e.rule (a.shape e.local)

pub returns : goal.returns
returns c = record { app = app_with-group _ _ c.args.group.now c.loop-argument.argument-index (omega arith) c.loop-argument.invariant }
