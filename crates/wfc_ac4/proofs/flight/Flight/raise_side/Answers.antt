use Rattle.std.proofs.Common.{refl, ap, arith}
use Rattle.wfc_ac4.specs.declared.flight.Flight.{Flight}
use Rattle.wfc_ac4.proofs.Steps.{raise_step}
use Rattle.wfc_ac4.proofs.flight.Flight.raise_side.Goals as goal

pub up-requires : goal.up-requires
up-requires g c =
    let fits = c.loop-w.invariant.raising.counters.fits in
    let s = raise_step _ _ _ _ _ _ _ _ _ _ _ c.loop-w.invariant.raising c.requires.dir_in c.requires.beside c.supports-w-items.ensures.value c.loop-w-test.true refl c.opposite-back.ensures.value in
    record {
      cell_in = omega (arith, s.cell_in, fits.same_cells);
      value_in = omega (arith, s.value_in, fits.same_values);
      dir_in = omega (arith, s.dir_in, fits.same_dirs);
      limit = s.below_limit;
    }

pub loop-w-preserved : goal.loop-w-preserved
loop-w-preserved g c =
    let s = raise_step _ _ _ _ _ _ _ _ _ _ _ c.loop-w.invariant.raising c.requires.dir_in c.requires.beside c.supports-w-items.ensures.value c.loop-w-test.true refl c.opposite-back.ensures.value in
    record {
      raising = rw c.up.ensures.changed s.after;
      same = ap (λ (f : Flight). record f { counters = c.up.new.self }) c.loop-w.invariant.same;
      marks = λ x y z m. c.loop-w.invariant.marks x y z (s.fewer x y z (rw c.up.ensures.changed at m));
      steps = omega (arith, c.up.ensures.steps, c.loop-w.invariant.steps);
    }
