use Rattle.std.proofs.Common.{◌≡◌, ◌+◌, ◌*◌, ◌/◌, ◌<◌, refl, sym, ◌∙◌, ap, subst, arith, take, get_or}
use Rattle.std.specs.Prelude.{◌↔◌, IsTrue, slice_index}
use Rattle.std.proofs.lemmas.Bool.{true≢false}
use Rattle.wfc_problem.specs.Network.{Network, neighbour, values}
use Rattle.wfc_domains.proofs.Boards.{grows-more}
use Rattle.wfc_domains.proofs.Problems.{few_values}
use Rattle.wfc_ac4.specs.Links.{no_link, link_places}
use Rattle.wfc_ac4.proofs.Steps.{step_lowered, working-range}
use Rattle.wfc_ac4.proofs.LinkLemmas.{all_links, begin_few, fits-lowered, four_dirs, four_in, half-of, length-some, limit-lowered, link_along, lowered-at, placed_as, table-few, whole-cost}
use Rattle.wfc_ac4.proofs.Strikes.{struck_as, struck_limit, struck_on, struck_working}
use Rattle.wfc_ac4.proofs.flight.Flight.work_four.Goals as goal
use Rattle.wfc_ac4.proofs.flight.Flight.work_four.Goals.{then-lower, else-lower}

pub overflow_cast-base-2 : goal.overflow_cast-base-2
overflow_cast-base-2 g c =
    let h = c.requires.working in
    omega (arith, begin_few c.args.self.now.board.problem.now h.board.traced.problem c.args.counters.now h.counters.fits c.args.cell c.row_len.result (working-range h).0 c.row_len.ensures.value)

pub overflow_add-place : goal.overflow_add-place
overflow_add-place g c =
    let h = c.loop-link.invariant in
    let s = link_along _ c.args.self.now.board _ c.args.counters.now _ _ _ _ _ _ _ _ _ h.goes_on.grows.problem c.requires.working.counters.fits h.working c.requires.links c.loop-link-test.true c.requires.sides (ap (λ n. c.args.cell * n) c.row_len.ensures.value) c.starts_of-starts.ensures.begins refl in
    omega (arith, s.inside, table-few _ _ h.working.board.traced.problem h.working.counters.fits)

pub bounds-starts-link : goal.bounds-starts-link
bounds-starts-link g c =
    let h = c.loop-link.invariant in
    four_in _ c.args.self.now.board _ _ _ _ _ _ _ h.goes_on.grows.problem h.working c.requires.links c.loop-link-test.true c.requires.sides

pub lower-requires-clause-paired : goal.lower-requires-clause-paired
lower-requires-clause-paired g c = subst (λ n. IsTrue c.args.paired ↔ (n ≡ 7)) (sym c.loop-link.invariant.limit) c.requires.paired

pub lower-requires-clause-unit : goal.lower-requires-clause-unit
lower-requires-clause-unit g c =
    let h = c.loop-link.invariant in
    let s = link_along _ c.args.self.now.board _ c.args.counters.now _ _ _ _ _ _ _ _ _ h.goes_on.grows.problem c.requires.working.counters.fits h.working c.requires.links c.loop-link-test.true c.requires.sides (ap (λ n. c.args.cell * n) c.row_len.ensures.value) c.starts_of-starts.ensures.begins refl in
    (half-of _ _ _ _ _ _ _ _ _ s (four_dirs c.loop-link.self.board c.args.self.now.board _ _ h.goes_on.grows.problem c.requires.sides)).0

pub lower-requires-clause-mask : goal.lower-requires-clause-mask
lower-requires-clause-mask g c =
    let h = c.loop-link.invariant in
    let s = link_along _ c.args.self.now.board _ c.args.counters.now _ _ _ _ _ _ _ _ _ h.goes_on.grows.problem c.requires.working.counters.fits h.working c.requires.links c.loop-link-test.true c.requires.sides (ap (λ n. c.args.cell * n) c.row_len.ensures.value) c.starts_of-starts.ensures.begins refl in
    (half-of _ _ _ _ _ _ _ _ _ s (four_dirs c.loop-link.self.board c.args.self.now.board _ _ h.goes_on.grows.problem c.requires.sides)).1

pub lower-requires-clause-place_in : goal.lower-requires-clause-place_in
lower-requires-clause-place_in g c =
    let h = c.loop-link.invariant in
    let s = link_along _ c.args.self.now.board _ c.args.counters.now _ _ _ _ _ _ _ _ _ h.goes_on.grows.problem c.requires.working.counters.fits h.working c.requires.links c.loop-link-test.true c.requires.sides (ap (λ n. c.args.cell * n) c.row_len.ensures.value) c.starts_of-starts.ensures.begins refl in
    s.inside

pub lower-requires-clause-some : goal.lower-requires-clause-some
lower-requires-clause-some g c =
    let h = c.loop-link.invariant in
    let s = link_along _ c.args.self.now.board _ c.args.counters.now _ _ _ _ _ _ _ _ _ h.goes_on.grows.problem c.requires.working.counters.fits h.working c.requires.links c.loop-link-test.true c.requires.sides (ap (λ n. c.args.cell * n) c.row_len.ensures.value) c.starts_of-starts.ensures.begins refl in
    s.some

pub bounds-sides-link : goal.bounds-sides-link
bounds-sides-link g c =
    let h = c.loop-link.invariant in
    four_in _ c.args.self.now.board _ _ _ _ _ _ _ h.goes_on.grows.problem h.working c.requires.links c.loop-link-test.true c.requires.sides

pub strike-requires-clause-fits : goal.strike-requires-clause-fits
strike-requires-clause-fits g c = fits-lowered _ _ _ _ _ c.loop-link.invariant.working.counters.fits c.lower.ensures.changed

pub strike-requires-clause-cell_in : goal.strike-requires-clause-cell_in
strike-requires-clause-cell_in g c =
    let h = c.loop-link.invariant in
    let x = get_or c.args.links.now c.loop-link.link-index no_link in
    let s = link_along _ c.args.self.now.board _ c.args.counters.now _ _ _ _ _ _ _ _ _ h.goes_on.grows.problem c.requires.working.counters.fits h.working c.requires.links c.loop-link-test.true c.requires.sides (ap (λ n. c.args.cell * n) c.row_len.ensures.value) c.starts_of-starts.ensures.begins c.hop_end-next.ensures.value in
    s.side.cell_in

pub overflow_cast-link-then-lower : goal.overflow_cast-link-then-lower
overflow_cast-link-then-lower g c =
    let h = c.loop-link.invariant in
    let x = get_or c.args.links.now c.loop-link.link-index no_link in
    let s = link_along _ c.args.self.now.board _ c.args.counters.now _ _ _ _ _ _ _ _ _ h.goes_on.grows.problem c.requires.working.counters.fits h.working c.requires.links c.loop-link-test.true c.requires.sides (ap (λ n. c.args.cell * n) c.row_len.ensures.value) c.starts_of-starts.ensures.begins refl in
    let four = four_dirs c.loop-link.self.board c.args.self.now.board _ _ h.goes_on.grows.problem c.requires.sides in
    omega (arith, s.side.value_in, ap (λ d. x.offset / d) four, few_values _ h.working.board.traced.problem)

pub strike-requires-clause-value_in : goal.strike-requires-clause-value_in
strike-requires-clause-value_in g c =
    let h = c.loop-link.invariant in
    let x = get_or c.args.links.now c.loop-link.link-index no_link in
    let s = link_along _ c.args.self.now.board _ c.args.counters.now _ _ _ _ _ _ _ _ _ h.goes_on.grows.problem c.requires.working.counters.fits h.working c.requires.links c.loop-link-test.true c.requires.sides (ap (λ n. c.args.cell * n) c.row_len.ensures.value) c.starts_of-starts.ensures.begins c.hop_end-next.ensures.value in
    let four = four_dirs c.loop-link.self.board c.args.self.now.board _ _ h.goes_on.grows.problem c.requires.sides in
    subst (λ d. x.offset / d < values c.loop-link.self.board.problem.now) four s.side.value_in

pub strike-requires-clause-back_in : goal.strike-requires-clause-back_in
strike-requires-clause-back_in g c =
    let h = c.loop-link.invariant in
    let x = get_or c.args.links.now c.loop-link.link-index no_link in
    let s = link_along _ c.args.self.now.board _ c.args.counters.now _ _ _ _ _ _ _ _ _ h.goes_on.grows.problem c.requires.working.counters.fits h.working c.requires.links c.loop-link-test.true c.requires.sides (ap (λ n. c.args.cell * n) c.row_len.ensures.value) c.starts_of-starts.ensures.begins c.hop_end-next.ensures.value in
    omega (arith, s.back_is, s.side.dir_in)

pub strike-requires-clause-at : goal.strike-requires-clause-at
strike-requires-clause-at g c =
    let h = c.loop-link.invariant in
    let x = get_or c.args.links.now c.loop-link.link-index no_link in
    let s = link_along _ c.args.self.now.board _ c.args.counters.now _ _ _ _ _ _ _ _ _ h.goes_on.grows.problem c.requires.working.counters.fits h.working c.requires.links c.loop-link-test.true c.requires.sides (ap (λ n. c.args.cell * n) c.row_len.ensures.value) c.starts_of-starts.ensures.begins c.hop_end-next.ensures.value in
    let four = four_dirs c.loop-link.self.board c.args.self.now.board _ _ h.goes_on.grows.problem c.requires.sides in
    placed_as c.loop-link.self.board.problem.now _ _ _ _ _ _ s.place_of (ap (λ d. x.offset / d) four) (sym s.back_is)

pub loop-link-preserved : goal.loop-link-preserved
loop-link-preserved g c =
    let h = c.loop-link.invariant in
    let P = c.args.self.now.board.problem.now in
    let T = c.loop-link.counters in
    let ls = c.args.links.now in
    let k = c.loop-link.link-index in
    let x = get_or ls k no_link in
    elim c.if-lower.branch [
      | then-lower w ↦
          let s = link_along _ c.args.self.now.board _ c.args.counters.now _ _ _ _ _ _ _ _ _ h.goes_on.grows.problem c.requires.working.counters.fits h.working c.requires.links c.loop-link-test.true c.requires.sides (ap (λ n. c.args.cell * n) c.row_len.ensures.value) c.starts_of-starts.ensures.begins w.hop_end-next.ensures.value in
          let longer = length-some P c.args.cell k _ ls c.loop-link-test.true (ap (λ p. neighbour p.now c.args.cell x.dir) (sym h.goes_on.grows.problem) ∙ s.beside) in
          let one_left = ap (slice_index T.counts) (sym s.place_is) ∙ c.lower.ensures.bare.0 w.if-lower.true in
          let four = four_dirs c.loop-link.self.board c.args.self.now.board _ _ h.goes_on.grows.problem c.requires.sides in
          let struck = struck_as _ _ _ _ _ _ _ _ _ (ap (λ d. x.offset / d) (sym four)) s.back_is w.strike.ensures.struck in
          let on = struck_on _ _ _ _ _ _ _ struck in
          rw (w.self-is, w.counters-is) (record {
            working = struck_working _ _ T _ _ _ _ _ _ _ _ _ (λ (N : Network). link_places N c.args.cell (take (k + 1) ls)) h.working s.side (lowered-at T _ _ _ _ _ s.place_is c.lower.ensures.changed) one_left struck;
            limit = struck_limit _ _ _ _ _ _ _ struck ∙ limit-lowered _ _ _ _ c.lower.ensures.changed ∙ h.limit;
            goes_on = record { grows = grows-more h.goes_on.grows on.grows; start = on.start ∙ h.goes_on.start; head = on.head ∙ h.goes_on.head };
            steps = omega (arith, c.lower.ensures.steps, h.steps, longer);
          })
      | else-lower w ↦
          let s = link_along _ c.args.self.now.board _ c.args.counters.now _ _ _ _ _ _ _ _ _ h.goes_on.grows.problem c.requires.working.counters.fits h.working c.requires.links c.loop-link-test.true c.requires.sides (ap (λ n. c.args.cell * n) c.row_len.ensures.value) c.starts_of-starts.ensures.begins refl in
          let longer = length-some P c.args.cell k _ ls c.loop-link-test.true (ap (λ p. neighbour p.now c.args.cell x.dir) (sym h.goes_on.grows.problem) ∙ s.beside) in
          let next = step_lowered _ T _ _ _ _ _ _ _ _ _ h.working s.side (lowered-at T _ _ _ _ _ s.place_is c.lower.ensures.changed)
          (λ alive one_left stands. true≢false (sym (c.lower.ensures.bare.1 (ap (slice_index T.counts) s.place_is ∙ one_left)) ∙ w.if-lower.false)) in
          rw (w.self-is, w.counters-is) (record {
            working = next;
            limit = limit-lowered _ _ _ _ c.lower.ensures.changed ∙ h.limit;
            goes_on = record { grows = h.goes_on.grows; start = h.goes_on.start; head = h.goes_on.head };
            steps = omega (arith, c.lower.ensures.steps, h.steps, longer);
          })
    ]

pub returns-clause-working : goal.returns-clause-working
returns-clause-working g c =
    let h = c.loop-link.invariant in
    all_links _ c.args.self.now.board _ _ _ _ _ c.args.links.now h.goes_on.grows.problem h.working c.requires.links c.loop-link-test.false

pub returns-clause-steps : goal.returns-clause-steps
returns-clause-steps g c =
    let h = c.loop-link.invariant in
    omega (arith, h.steps, whole-cost c.args.self.now.board.problem.now c.args.cell c.args.value c.loop-link.link-index c.args.links.now c.requires.links c.loop-link-test.false)
