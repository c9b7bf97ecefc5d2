use Rattle.std.proofs.Common.{◌≡◌, length, sym, arith}
use Rattle.wfc_choose.specs.Pick.{Rule}
use Rattle.wfc_choose.specs.declared.RuleKind.TheVariants.{Scanline}
use Rattle.wfc_choose.proofs.PickLemmas.{picked_is, picked_is_none}
use Rattle.wfc_choose.proofs.scanning.first_open.Goals as goal

pub returns-then-sizes-cell-ge2 : goal.returns-then-sizes-cell-ge2
returns-then-sizes-cell-ge2 c =
    record {
      exact = λ ranks.
          let rule : Rule = record { kind = Scanline; ranks = ranks } in
          sym (picked_is rule c.args.sizes.now c.loop-cell.cell (omega arith) c.if-sizes-cell-ge2.true (λ other l o. omega arith)
          (λ other l o. let few = c.loop-cell.invariant other l in absurd (omega arith)));
    }

pub returns : goal.returns
returns c =
    let all : c.loop-cell.cell ≡ length c.args.sizes.now = omega (arith, c.loop-cell.auto.cell-end, c.loop-cell-test.false) in
    record {
      exact = λ ranks.
          let rule : Rule = record { kind = Scanline; ranks = ranks } in
          sym (picked_is_none rule c.args.sizes.now (λ other l. c.loop-cell.invariant other (omega arith)));
    }
