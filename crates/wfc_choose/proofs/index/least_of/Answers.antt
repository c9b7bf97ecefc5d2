use Rattle.std.proofs.Common.{◌≡◌, ℕ, ◌+◌, get_or, sym, subst, arith, ap, ◌∙◌}
use Rattle.std.specs.Prelude.{min}
use Rattle.wfc_choose.specs.Index.{time_of}
use Rattle.wfc_choose.proofs.IndexLemmas.{IsLeastBelow, least_more}
use Rattle.wfc_choose.proofs.index.least_of.Goals as goal

pub loop-at-preserved : goal.loop-at-preserved
loop-at-preserved c =
    let is : c.min-least.result ≡ min c.loop-at.least (time_of (get_or c.args.list.now c.loop-at.at 0)) =
    c.min-least.ensures ∙ ap (λ (n : ℕ). min c.loop-at.least n) c.time_of.ensures.value in
    subst (λ (n : ℕ). IsLeastBelow c.args.list.now c.args.block (c.loop-at.at + 1) n) (sym is)
    (least_more c.args.list.now c.args.block c.loop-at.at c.loop-at.least c.loop-at.invariant (record { low = omega arith; high = omega arith; within = omega arith }))
