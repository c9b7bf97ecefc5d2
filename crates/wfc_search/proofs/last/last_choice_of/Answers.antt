use Rattle.std.proofs.Common.{◌≡◌, ◌-◌, suc, arith, ap, ◌∙◌, drop}
use Rattle.wfc_search.specs.Run.{last_choice}
use Rattle.wfc_search.proofs.Literals.{last_choice_at}
use Rattle.wfc_search.proofs.last.last_choice_of.Goals as goal

pub returns-in-Is-clause-last : goal.returns-in-Is-clause-last
returns-in-Is-clause-last c =
    let one_more : suc (c.loop-at.at - 1) ≡ c.loop-at.at = omega arith in
    last_choice_at _ (c.loop-at.at - 1) _ _ _ (omega arith) (ap (λ n. last_choice (drop n c.args.standing.now)) one_more ∙ c.loop-at.invariant.none) c.in-Is.is
