use Rattle.std.proofs.Common.{refl, sym, ◌∙◌, arith, inl, inr}
use Rattle.std.proofs.lemmas.Bool.{true≢false, lt-ltb}
use Rattle.wfc_domains.proofs.examples.levels_are_read.Goals as goal

pub returns-clause-cell : goal.returns-clause-cell
returns-clause-cell c = inl (omega arith)

pub returns-clause-value : goal.returns-clause-value
returns-clause-value c = inr (refl, inl (omega arith))

pub returns-clause-dir : goal.returns-clause-dir
returns-clause-dir c = inr (refl, inr (refl, omega arith))

pub returns-clause-itself : goal.returns-clause-itself
returns-clause-itself c = λ b. elim b [
  | inl l ↦ absurd (omega arith)
  | inr s ↦ elim s.1 [ inl l ↦ absurd (omega arith) | inr t ↦ let l = t.1 in absurd (omega arith) ]
]

pub returns-clause-least_not : goal.returns-clause-least_not
returns-clause-least_not c = λ l. l.least 2 1 3 refl (record { next = 0; beside = refl; none = refl }) (inl (omega arith))

pub returns-clause-least_empty : goal.returns-clause-least_empty
returns-clause-least_empty c = record {
  cell_in = omega arith;
  empty = λ v. refl;
  least = λ k l e. true≢false (sym (lt-ltb k 2 l) ∙ e 0);
}

pub returns-clause-not_least : goal.returns-clause-not_least
returns-clause-not_least c = λ l. l.least 2 (omega arith) (λ v. refl)
