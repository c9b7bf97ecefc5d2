use Rattle.std.proofs.Common.{ℕ, List, sym, subst, inl, inr, arith}
use Rattle.wfc_box.specs.StackTable.{AreVariantPairs}
use Rattle.wfc_box.proofs.StackLemmas.{stacked_outside}
use Rattle.wfc_box.proofs.allowed.Stacks.has.Goals.{then-lower-self-via-then-lower-self, then-lower-self-via-else-lower-self+then-upper-self}
use Rattle.wfc_box.proofs.allowed.Stacks.has.Goals as goal

pub returns-then-lower-self : goal.returns-then-lower-self
returns-then-lower-self c =
    let within = subst (λ (ps : List (ℕ × ℕ)). AreVariantPairs c.self.inside.side ps) c.self.view_is c.self.invariant.within in
    record {
      value = sym (elim c.then-lower-self.branch [
        | then-lower-self-via-then-lower-self w ↦ stacked_outside c.self.inside.side c.args.self.now c.args.lower c.args.upper within (inl (omega (arith, w.if-lower-self.true)))
        | then-lower-self-via-else-lower-self+then-upper-self w ↦ stacked_outside c.self.inside.side c.args.self.now c.args.lower c.args.upper within (inr (omega (arith, w.if-upper-self.true)))
      ]);
    }
