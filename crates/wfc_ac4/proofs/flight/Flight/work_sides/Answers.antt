use Rattle.std.proofs.Common.{◌+◌, ◌/◌, ◌<◌, sym, ◌∙◌, ap, subst, arith, length, take, get_or}
use Rattle.std.specs.Prelude.{slice_index}
use Rattle.std.proofs.lemmas.Bool.{true≢false}
use Rattle.wfc_problem.specs.Network.{Network, neighbour, values}
use Rattle.wfc_problem.proofs.CallerLemmas.{hops_length}
use Rattle.wfc_domains.proofs.Boards.{grows-more}
use Rattle.wfc_domains.proofs.Problems.{few_values}
use Rattle.wfc_ac4.specs.Links.{no_link, link_places}
use Rattle.wfc_ac4.proofs.Steps.{step_lowered, working-range}
use Rattle.wfc_ac4.proofs.LinkLemmas.{fits-lowered, is_link, limit-lowered, link_hop, link_skipped, link-none, length-some, lowered-at, no_neighbour, all_links, placed_as, whole-cost}
use Rattle.wfc_ac4.proofs.Strikes.{struck_as, struck_limit, struck_on, struck_working}
use Rattle.wfc_ac4.proofs.flight.Flight.work_sides.Goals as goal
use Rattle.wfc_ac4.proofs.flight.Flight.work_sides.Goals.{in-Some+then-down_at, in-Some+else-down_at, in_default}

pub hops-hops-requires : goal.hops-hops-requires
hops-hops-requires g c = record { cell_in = (working-range c.requires.working).0 }

pub row_len-row_len-requires : goal.row_len-row_len-requires
row_len-row_len-requires g c =
    let h = c.requires.working in
    record { some_cell = omega (arith, (working-range h).0, h.counters.fits.same_cells) }

pub bounds-hops-link : goal.bounds-hops-link
bounds-hops-link g c =
    let p = c.requires.working.board.traced.problem in
    omega (arith, (is_link _ p _ _ _ c.requires.links c.loop-link-test.true).dir_in, hops_length _ p _ _ (working-range c.requires.working).0 c.hops-hops.ensures.value)

pub down_at-requires-clause-place_in : goal.down_at-requires-clause-place_in
down_at-requires-clause-place_in g c =
    let h = c.loop-link.invariant in
    let s = link_hop _ c.args.self.now.board _ c.args.counters.now _ _ _ _ _ _ _ c.hops-hops.result.now h.goes_on.grows.problem c.requires.working.counters.fits h.working c.requires.links c.loop-link-test.true c.hops-hops.ensures.value c.row_len-row_len.ensures.value (sym c.hop_cell.ensures.value ∙ c.in-Some.is) in
    s.inside

pub down_at-requires-clause-some : goal.down_at-requires-clause-some
down_at-requires-clause-some g c =
    let h = c.loop-link.invariant in
    let s = link_hop _ c.args.self.now.board _ c.args.counters.now _ _ _ _ _ _ _ c.hops-hops.result.now h.goes_on.grows.problem c.requires.working.counters.fits h.working c.requires.links c.loop-link-test.true c.hops-hops.ensures.value c.row_len-row_len.ensures.value (sym c.hop_cell.ensures.value ∙ c.in-Some.is) in
    s.some

pub value_at-other-requires-clause-few : goal.value_at-other-requires-clause-few
value_at-other-requires-clause-few g c =
    let h = c.loop-link.invariant in
    let x = get_or c.args.links.now c.loop-link.link-index no_link in
    let s = link_hop _ c.args.self.now.board _ c.args.counters.now _ _ _ _ _ _ _ c.hops-hops.result.now h.goes_on.grows.problem c.requires.working.counters.fits h.working c.requires.links c.loop-link-test.true c.hops-hops.ensures.value c.row_len-row_len.ensures.value (sym c.hop_cell.ensures.value ∙ c.in-Some.is) in
    omega (arith, s.side.value_in, few_values _ h.working.board.traced.problem, ap (λ d. x.offset / d) (c.dirs.ensures.value ∙ ap (λ p. p.now.dirs) (sym h.goes_on.grows.problem)))

pub strike-requires-clause-fits : goal.strike-requires-clause-fits
strike-requires-clause-fits g c = fits-lowered _ _ _ _ _ c.loop-link.invariant.working.counters.fits c.down_at.ensures.changed

pub strike-requires-clause-filled : goal.strike-requires-clause-filled
strike-requires-clause-filled g c = c.loop-link.invariant.working.board.filled

pub strike-requires-clause-cell_in : goal.strike-requires-clause-cell_in
strike-requires-clause-cell_in g c =
    let h = c.loop-link.invariant in
    let s = link_hop _ c.args.self.now.board _ c.args.counters.now _ _ _ _ _ _ _ c.hops-hops.result.now h.goes_on.grows.problem c.requires.working.counters.fits h.working c.requires.links c.loop-link-test.true c.hops-hops.ensures.value c.row_len-row_len.ensures.value (sym c.hop_cell.ensures.value ∙ c.in-Some.is) in
    s.side.cell_in

pub strike-requires-clause-value_in : goal.strike-requires-clause-value_in
strike-requires-clause-value_in g c =
    let h = c.loop-link.invariant in
    let x = get_or c.args.links.now c.loop-link.link-index no_link in
    let other = c.value_at-other.ensures.value ∙ ap (λ d. x.offset / d) (c.dirs.ensures.value ∙ ap (λ p. p.now.dirs) (sym h.goes_on.grows.problem)) in
    let s = link_hop _ c.args.self.now.board _ c.args.counters.now _ _ _ _ _ _ _ c.hops-hops.result.now h.goes_on.grows.problem c.requires.working.counters.fits h.working c.requires.links c.loop-link-test.true c.hops-hops.ensures.value c.row_len-row_len.ensures.value (sym c.hop_cell.ensures.value ∙ c.in-Some.is) in
    subst (λ w. w < values c.loop-link.self.board.problem.now) (sym other) s.side.value_in

pub strike-requires-clause-back_in : goal.strike-requires-clause-back_in
strike-requires-clause-back_in g c =
    let h = c.loop-link.invariant in
    let s = link_hop _ c.args.self.now.board _ c.args.counters.now _ _ _ _ _ _ _ c.hops-hops.result.now h.goes_on.grows.problem c.requires.working.counters.fits h.working c.requires.links c.loop-link-test.true c.hops-hops.ensures.value c.row_len-row_len.ensures.value (sym c.hop_cell.ensures.value ∙ c.in-Some.is) in
    omega (arith, s.back_is, s.side.dir_in)

pub strike-requires-clause-at : goal.strike-requires-clause-at
strike-requires-clause-at g c =
    let h = c.loop-link.invariant in
    let x = get_or c.args.links.now c.loop-link.link-index no_link in
    let other = c.value_at-other.ensures.value ∙ ap (λ d. x.offset / d) (c.dirs.ensures.value ∙ ap (λ p. p.now.dirs) (sym h.goes_on.grows.problem)) in
    let s = link_hop _ c.args.self.now.board _ c.args.counters.now _ _ _ _ _ _ _ c.hops-hops.result.now h.goes_on.grows.problem c.requires.working.counters.fits h.working c.requires.links c.loop-link-test.true c.hops-hops.ensures.value c.row_len-row_len.ensures.value (sym c.hop_cell.ensures.value ∙ c.in-Some.is) in
    placed_as c.loop-link.self.board.problem.now _ _ _ _ _ _ s.place_of (sym other) (sym s.back_is)

pub loop-link-preserved : goal.loop-link-preserved
loop-link-preserved g c =
    let h = c.loop-link.invariant in
    let P = c.args.self.now.board.problem.now in
    let T = c.loop-link.counters in
    let ls = c.args.links.now in
    let k = c.loop-link.link-index in
    let x = get_or ls k no_link in
    elim c.match-hop_cell.branch [
      | in-Some+then-down_at w ↦
          let s = link_hop _ c.args.self.now.board _ c.args.counters.now _ _ _ _ _ _ _ c.hops-hops.result.now h.goes_on.grows.problem c.requires.working.counters.fits h.working c.requires.links c.loop-link-test.true c.hops-hops.ensures.value c.row_len-row_len.ensures.value (sym c.hop_cell.ensures.value ∙ w.in-Some.is) in
          let longer = length-some P c.args.cell k _ ls c.loop-link-test.true (ap (λ p. neighbour p.now c.args.cell x.dir) (sym h.goes_on.grows.problem) ∙ s.beside) in
          let one_left = ap (slice_index T.counts) (sym s.place_is) ∙ w.down_at.ensures.bare.0 w.if-down_at.true in
          let other = w.value_at-other.ensures.value ∙ ap (λ d. x.offset / d) (w.dirs.ensures.value ∙ ap (λ p. p.now.dirs) (sym h.goes_on.grows.problem)) in
          let struck = struck_as _ _ _ _ _ _ _ _ _ other s.back_is w.strike.ensures.struck in
          let on = struck_on _ _ _ _ _ _ _ struck in
          rw (w.self-is, w.counters-is, w.steps-is) (record {
            working = struck_working _ _ T _ _ _ _ _ _ _ _ _ (λ (N : Network). link_places N c.args.cell (take (k + 1) ls)) h.working s.side (lowered-at T _ _ _ _ _ s.place_is w.down_at.ensures.changed) one_left struck;
            limit = struck_limit _ _ _ _ _ _ _ struck ∙ limit-lowered _ _ _ _ w.down_at.ensures.changed ∙ h.limit;
            goes_on = record { grows = grows-more h.goes_on.grows on.grows; start = on.start ∙ h.goes_on.start; head = on.head ∙ h.goes_on.head };
            steps = omega (arith, w.down_at.ensures.steps, h.steps, longer);
          })
      | in-Some+else-down_at w ↦
          let s = link_hop _ c.args.self.now.board _ c.args.counters.now _ _ _ _ _ _ _ c.hops-hops.result.now h.goes_on.grows.problem c.requires.working.counters.fits h.working c.requires.links c.loop-link-test.true c.hops-hops.ensures.value c.row_len-row_len.ensures.value (sym c.hop_cell.ensures.value ∙ w.in-Some.is) in
          let longer = length-some P c.args.cell k _ ls c.loop-link-test.true (ap (λ p. neighbour p.now c.args.cell x.dir) (sym h.goes_on.grows.problem) ∙ s.beside) in
          let next = step_lowered _ T _ _ _ _ _ _ _ _ _ h.working s.side (lowered-at T _ _ _ _ _ s.place_is w.down_at.ensures.changed)
          (λ alive one_left stands. true≢false (sym (w.down_at.ensures.bare.1 (ap (slice_index T.counts) s.place_is ∙ one_left)) ∙ w.if-down_at.false)) in
          rw (w.self-is, w.counters-is, w.steps-is) (record {
            working = next;
            limit = limit-lowered _ _ _ _ w.down_at.ensures.changed ∙ h.limit;
            goes_on = record { grows = h.goes_on.grows; start = h.goes_on.start; head = h.goes_on.head };
            steps = omega (arith, w.down_at.ensures.steps, h.steps, longer);
          })
      | in_default w ↦
          let none = no_neighbour _ c.args.self.now.board _ _ _ _ _ _ _ c.hops-hops.result.now h.goes_on.grows.problem h.working c.requires.links c.loop-link-test.true c.hops-hops.ensures.value (sym c.hop_cell.ensures.value ∙ w.in_default.is) in
          rw (w.self-is, w.counters-is, w.steps-is) (record {
            working = link_skipped _ c.args.self.now.board _ _ _ _ _ _ h.goes_on.grows.problem h.working c.loop-link-test.true none;
            limit = h.limit;
            goes_on = record { grows = h.goes_on.grows; start = h.goes_on.start; head = h.goes_on.head };
            steps = omega (arith, h.steps, ap length (link-none P c.args.cell k ls c.loop-link-test.true none));
          })
    ]

pub returns-clause-working : goal.returns-clause-working
returns-clause-working g c =
    let h = c.loop-link.invariant in
    all_links _ c.args.self.now.board _ _ _ _ _ c.args.links.now h.goes_on.grows.problem h.working c.requires.links c.loop-link-test.false

pub returns-clause-steps : goal.returns-clause-steps
returns-clause-steps g c =
    let h = c.loop-link.invariant in
    omega (arith, h.steps, whole-cost c.args.self.now.board.problem.now c.args.cell c.args.value c.loop-link.link-index c.args.links.now c.requires.links c.loop-link-test.false)
