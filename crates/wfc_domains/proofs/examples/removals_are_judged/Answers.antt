use Rattle.std.proofs.Common.{refl, arith}
use Rattle.std.proofs.lemmas.Bool.{false≢true, true≢false, and_from}
use Rattle.wfc_domains.proofs.examples.removals_are_judged.Goals as goal

pub returns-clause-bare : goal.returns-clause-bare
returns-clause-bare c = record { next = 0; beside = refl; none = refl }

pub returns-clause-supported : goal.returns-clause-supported
returns-clause-supported c = λ u. let e = u.none in absurd (omega arith)

pub returns-clause-no_neighbour : goal.returns-clause-no_neighbour
returns-clause-no_neighbour c = λ u. let e = u.beside in cc

pub returns-clause-assumed_not : goal.returns-clause-assumed_not
returns-clause-assumed_not c = λ e. true≢false e

pub returns-clause-cut_first : goal.returns-clause-cut_first
returns-clause-cut_first c = λ k. false≢true (k.0 0 0 refl)

pub returns-clause-removed : goal.returns-clause-removed
returns-clause-removed c = (
  record {
    filled = refl;
    stood = refl;
    before = refl;
    cause = (λ x y t. and_from _ _ t refl, record { next = 0; beside = refl; none = refl });
  },
  tt,
)

pub returns-clause-before : goal.returns-clause-before
returns-clause-before c = λ k. let e = k.0.before in absurd (omega arith)

pub returns-clause-behind_the_last : goal.returns-clause-behind_the_last
returns-clause-behind_the_last c = λ k. true≢false k.0.filled

pub returns-clause-once : goal.returns-clause-once
returns-clause-once c = λ k. false≢true k.1.0.stood
