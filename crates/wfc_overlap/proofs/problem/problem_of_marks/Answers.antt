use Rattle.std.proofs.Common.{◌≡◌, true, [], length, sym, ap, ◌∙◌, subst}
use Rattle.std.proofs.lemmas.Bool.{eqb-true}
use Rattle.std.proofs.lemmas.List.{nil_from_length}
use Rattle.wfc_problem.specs.Network.{IsProblem}
use Rattle.wfc_problem.specs.Whole.{network_of}
use Rattle.wfc_overlap.specs.Sample.{output_with, problem_of_sample}
use Rattle.wfc_overlap.proofs.PartLemmas.{whole_without_pins}
use Rattle.wfc_overlap.proofs.SampleLemmas.{sample_problem}
use Rattle.wfc_overlap.proofs.problem.problem_of_marks.Goals as goal

pub from_known-requires : goal.from_known-requires
from_known-requires c = record {
  problem = subst IsProblem (sym c.in_ok-parts.ensures.value)
      (sample_problem c.args.patterns.now (output_with c.args.width c.args.height c.args.wrap) c.args.marks.now c.in_ok-parts.ensures.patterns c.requires.room);
}

pub from_known_whole-requires : goal.from_known_whole-requires
from_known_whole-requires c =
    let patterns = c.args.patterns.now in
    let output = output_with c.args.width c.args.height c.args.wrap in
    let known : IsProblem (problem_of_sample patterns output []) = sample_problem patterns output [] c.n.ensures.patterns c.requires.room in
    let said : network_of true c.in_ok-whole.whole ≡ problem_of_sample patterns output [] =
    ap (network_of true) c.in_ok-whole.ensures.value ∙ ap (λ o. network_of true (problem_of_sample patterns o [])) c.new-layout.ensures.output ∙ whole_without_pins patterns output known in
    record { problem = subst IsProblem (sym said) known }

pub returns-then-is_empty : goal.returns-then-is_empty
returns-then-is_empty c =
    let patterns = c.args.patterns.now in
    let output = output_with c.args.width c.args.height c.args.wrap in
    let known : IsProblem (problem_of_sample patterns output []) = sample_problem patterns output [] c.n.ensures.patterns c.requires.room in
    let none : c.args.marks.now ≡ [] = nil_from_length c.args.marks.now (eqb-true (length c.args.marks.now) 0 (sym c.is_empty.ensures ∙ c.if-is_empty.true)) in
    record {
      value =
          c.from_known_whole.ensures.value
          ∙ ap (network_of true) c.in_ok-whole.ensures.value
          ∙ ap (λ o. network_of true (problem_of_sample patterns o [])) c.new-layout.ensures.output
          ∙ whole_without_pins patterns output known
          ∙ ap (problem_of_sample patterns output) (sym none);
    }
