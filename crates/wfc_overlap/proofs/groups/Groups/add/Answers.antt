use Rattle.std.proofs.Common.{◌++◌, [], ◌∷◌, sym, ap, ◌∙◌}
use Rattle.std.specs.Prelude.{nat_eq, if◌then◌else◌}
use Rattle.std.specs.Cmp.Lexicographic.{pointwise}
use Rattle.indexmap.specs.IndexMap.{insert_entry}
use Rattle.wfc_overlap.specs.Sides.{members}
use Rattle.wfc_overlap.proofs.GroupLemmas.{seen, added_there, added_new}
use Rattle.wfc_overlap.proofs.groups.Groups.add.Goals as goal

pub returns-in-Some : goal.returns-in-Some
returns-in-Some c =
    let w = c.as_slice.result.now in
    let es = c.self.inside.groups.entries in
    let written = c.get_mut.follows.holds c.push.new.self in
    record {
      added = λ k.
          ap (λ fs. members (seen fs) k) written.0
          ∙ added_there w k es c.in-Some.members.now c.push.new.self c.args.member (sym c.in-Some.ensures.value) c.in_ok-push.ensures.items
          ∙ ap (λ key. members (seen es) k ++ (if pointwise nat_eq k key then c.args.member ∷ [] else [])) c.as_slice.ensures.value
          ∙ ap (λ gs. members gs k ++ (if pointwise nat_eq k c.args.key.items then c.args.member ∷ [] else [])) c.self.view_is;
    }

pub returns : goal.returns
returns c =
    let w = c.as_slice.result.now in
    let es = c.self.inside.groups.entries in
    let pushed = c.in_ok-push-2.ensures.items ∙ ap (λ ms. ms ++ c.args.member ∷ []) c.new-members.ensures.items in
    record {
      added = λ k.
          ap (λ fs. members (seen fs) k) c.in_ok-insert.ensures.entries
          ∙ ap (λ m. members (seen (insert_entry (λ a b. pointwise nat_eq a.items b.items) m.entries c.args.key c.push-2.new.self)) k) c.get_mut.follows.holds-at-none
          ∙ added_new w k es c.args.key c.push-2.new.self c.args.member (sym c.in_default.ensures.value) (sym c.as_slice.ensures.value) pushed
          ∙ ap (λ key. members (seen es) k ++ (if pointwise nat_eq k key then c.args.member ∷ [] else [])) c.as_slice.ensures.value
          ∙ ap (λ gs. members gs k ++ (if pointwise nat_eq k c.args.key.items then c.args.member ∷ [] else [])) c.self.view_is;
    }
