use Rattle.std.proofs.Common.{sym, ap, ◌∙◌}
use Rattle.wfc_overlap.specs.Sides.{members}
use Rattle.wfc_overlap.proofs.GroupLemmas.{members_found, members_absent}
use Rattle.wfc_overlap.proofs.groups.Groups.get.Goals as goal

pub returns-in-Some : goal.returns-in-Some
returns-in-Some c = record {
  value =
      c.as_slice.ensures.value
      ∙ sym (members_found c.args.key.now c.self.inside.groups.entries c.in-Some.members.now (sym c.in-Some.ensures.value))
      ∙ ap (λ gs. members gs c.args.key.now) c.self.view_is;
}

pub returns-in-None : goal.returns-in-None
returns-in-None c = record {
  value = sym (members_absent c.args.key.now c.self.inside.groups.entries (sym c.in-None.ensures.value)) ∙ ap (λ gs. members gs c.args.key.now) c.self.view_is;
}
