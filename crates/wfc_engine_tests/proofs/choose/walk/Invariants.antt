use Rattle.std.proofs.Common.{◌≡◌, length}
use Rattle.wfc_choose.specs.Told.{Told}
use Rattle.wfc_engine_tests.proofs.choose.walk.Given as goal

-- both choosers hold as many sizes as there are cells
abbrev pub invariant-loop-step : goal.invariant-loop-step
invariant-loop-step g l =
    let plain : Told = (goal.Chooser-dyn g (l.plain.vtable, l.plain.value)).told l.plain.value in
    let indexed : Told = (goal.Chooser-dyn g (l.indexed.vtable, l.indexed.value)).told l.indexed.value in
    record { plain : length plain.sizes ≡ l.count; indexed : length indexed.sizes ≡ l.count }
