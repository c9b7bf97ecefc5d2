use Rattle.std.proofs.Common.{◌≡◌, ◌+◌, ◌-◌, ◌≤◌, ◌<◌, length, take, drop, ap, ◌∙◌, arith, eqb-true}
use Rattle.wfc_check.specs.Stream.{stream_view}
use Rattle.wfc_check.proofs.StreamLemmas.{gathers_end, gathers_more, kept_front, length_front}
use Rattle.wfc_check.proofs.stream.Stream.gather.Goals as goal

pub returns-in_ok-extend_from_slice-in-Some-clause-gathered : goal.returns-in_ok-extend_from_slice-in-Some-clause-gathered
returns-in_ok-extend_from_slice-in-Some-clause-gathered c =
    let s = c.args.self.now in
    let most = c.min-most.result in
    let found = c.in-Some.ensures in
    let inside : s.from + most ≤ s.to = omega arith in
    let few : length c.args.line.now.items + most ≤ 65 = omega arith in
    let count : s.from + most - s.from ≡ most = omega arith in
    let is = ap (λ items. take (s.from + most - s.from) (drop s.from items)) c.deref.ensures.value ∙ ap (λ n. take n (drop s.from s.piece.items)) count ∙ kept_front s.piece.items s.from s.to most inside in
    gathers_end (stream_view s) (stream_view c.pass.new.self) c.args.line.now.items c.extend_from_slice.new.self.items _ c.in-Some.end most is found.0.high found.0.before (eqb-true _ 10 found.1)
    c.in_ok-extend_from_slice-in-Some.ensures.items few c.pass.ensures.passed

pub returns-in_ok-extend_from_slice-in-None-clause-gathered : goal.returns-in_ok-extend_from_slice-in-None-clause-gathered
returns-in_ok-extend_from_slice-in-None-clause-gathered c =
    let s = c.args.self.now in
    let most = c.min-most.result in
    let inside : s.from + most ≤ s.to = omega arith in
    let few : length c.args.line.now.items + most ≤ 65 = omega arith in
    let count : s.from + most - s.from ≡ most = omega arith in
    let is = ap (λ items. take (s.from + most - s.from) (drop s.from items)) c.deref.ensures.value ∙ ap (λ n. take n (drop s.from s.piece.items)) count ∙ kept_front s.piece.items s.from s.to most inside in
    let some : 0 < most = omega arith in
    gathers_more (stream_view s) (stream_view c.pass-in-None.new.self) c.args.line.now.items c.extend_from_slice-in-None.new.self.items _ most is c.in-None.ensures
    c.in_ok-extend_from_slice-in-None.ensures.items (omega (arith, length_front c.deref.result.now s.from (s.from + most - s.from) (omega (arith, c.deref.ensures.len, s.inside)))) few c.pass-in-None.ensures.passed
