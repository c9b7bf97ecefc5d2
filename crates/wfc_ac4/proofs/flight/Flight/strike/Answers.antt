use Rattle.std.proofs.Common.{◌≡◌, ◌+◌, arith}
use Rattle.wfc_domains.specs.Counters.{counter_place, count_place}
use Rattle.wfc_domains.proofs.Places.{place-is}
use Rattle.wfc_ac4.proofs.flight.Flight.strike.Goals as goal

pub mark_at-requires : goal.mark_at-requires
mark_at-requires c =
    let P = c.args.self.now.board.problem.now in
    let T = c.args.counters.now in
    let f = c.requires.fits in
    let row : counter_place P c.args.cell c.args.value c.args.back ≡ counter_place P c.args.cell c.args.value 0 + c.args.back = omega arith in
    let start : counter_place P c.args.cell c.args.value 0 ≡ count_place T.values T.dirs c.args.cell c.args.value 0 = place-is P T f c.args.cell c.args.value 0 in
    record {
      start = omega (arith, c.requires.at, row, start);
      cell_in = omega (arith, c.requires.cell_in, f.same_cells);
      value_in = omega (arith, c.requires.value_in, f.same_values);
    }
