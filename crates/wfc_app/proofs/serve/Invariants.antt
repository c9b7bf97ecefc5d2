-- So many choosers of each rule stand there as turns were made, and nothing was told.
use Rattle.std.proofs.Common.{◌≡◌, map}
use Rattle.wfc_app.specs.Choosers.{rules_made}
use Rattle.wfc_app.specs.contracts.push_both.{dyn-1-ghosts}
use Rattle.wfc_app.proofs.serve.OwnLists.{own-1, lawful-own-1}
use Rattle.wfc_app.proofs.serve.Given as goal

abbrev pub invariant-loop-made : goal.invariant-loop-made
invariant-loop-made g l =
    (map (λ chooser. (((dyn-1-ghosts (own-1, lawful-own-1)).0.entry chooser.vtable).1.told chooser.value).rule) l.choosers.items ≡ rules_made l._made)
    × (l.err ≡ l.fn.err)
