use Rattle.std.proofs.Common.{◌≡◌, ℕ, ◌*◌, subst, arith}
use Rattle.wfc_places.specs.Marks.{suits}
use Rattle.wfc_places.proofs.FlagLemmas.{IsCutTo, row_cut}
use Rattle.wfc_places.proofs.flags.cut_row.Goals as goal

pub returns : goal.returns
returns c =
    let last : c.loop-v.v ≡ c.args.count = omega arith in
    record {
      cut =
          row_cut c.args.count c.args.flags.now c.loop-v.flags c.args.cell (suits c.args.mark.now)
          (subst (λ (v : ℕ). IsCutTo c.args.flags.now c.loop-v.flags (c.args.cell * c.args.count) v (suits c.args.mark.now)) last c.loop-v.invariant);
    }
