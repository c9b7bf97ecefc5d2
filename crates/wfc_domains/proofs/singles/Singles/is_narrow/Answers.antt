use Rattle.std.proofs.Common.{◌≡◌, ◌<◌, length, sym, ◌∙◌, arith, inl, inr}
use Rattle.std.proofs.lemmas.Bool.{cases_lt, eq-eqb, true≢false}
use Rattle.wfc_domains.proofs.HalfLemmas.{wide-plain}
use Rattle.wfc_domains.proofs.singles.Singles.is_narrow.Goals as goal

pub returns-clause-wide : goal.returns-clause-wide
returns-clause-wide c =
    let a = c.self.inside in
    let ss = a.small.items in
    let ls = a.large.items in
    rw (← c.self.view_is) (λ wide p.
    let some : 0 < length ls = elim (cases_lt 0 (length ls)) [
      | inl l ↦ l
      | inr l ↦
          let none : c.len.result ≡ 0 = omega (arith, c.len.ensures, a.large.ok.0) in
          absurd (true≢false (sym (eq-eqb _ _ none) ∙ wide))
    ] in
    wide-plain ss ls p some c.self.invariant.both (c.self.invariant.each p))
