use Rattle.std.proofs.Common.{◌∷◌, ◌++◌, [], sym, subst, ◌∙◌, ap, arith, length}
use Rattle.std.proofs.lemmas.List.{append_assoc, append-nil, length-append, nil_from_length}
use Rattle.wfc_log.specs.Log.{Extent, AreLogged}
use Rattle.wfc_log.proofs.SizeLemmas.{logged-split}
use Rattle.wfc_log.proofs.trail.Trail.pop.Goals as goal

pub invariant_of-self : goal.invariant_of-self
invariant_of-self c =
    let a = c.self.inside in
    let h = c.self.invariant in
    let e = a.older.extent in
    let xs = a.older.removals in
    let ys = c.pop.new.self.items in
    let split = ap (λ zs. xs ++ zs) c.pop.ensures.items ∙ sym (append_assoc xs ys _) in
    record {
      fits = omega (arith, h.fits, c.pop.ensures.len);
      list_room = omega (arith, h.list_room, c.pop.ensures.capacity);
      number_room = h.number_room;
      logged = (logged-split e e.sizes (xs ++ ys) _ (subst (AreLogged e e.sizes) split h.logged)).0;
    }

pub invariant_of-self-in-None : goal.invariant_of-self-in-None
invariant_of-self-in-None c =
    let a = c.self.inside in
    let h = c.self.invariant in
    let e = a.older.extent in
    let new = c.pop-in-None.new.self in
    let r = c.pop-in-None.result in
    let told = c.pop-in-None.ensures in
    let none = nil_from_length c.pop.new.self.items (omega (arith, c.in-None.ensures.cases.1, c.pop.new.self.ok.0)) in
    let extent = ap (λ z. z.extent) told.same in
    let whole = subst (λ xs. AreLogged e e.sizes (xs ++ a.list.items)) told.last h.logged in
    let split = append_assoc new.removals (r ∷ []) a.list.items in
    let front = (logged-split e e.sizes new.removals (r ∷ a.list.items) (subst (AreLogged e e.sizes) split whole)).0 in
    let Q : Extent → Type 0 = λ x. AreLogged x x.sizes (new.removals ++ c.pop.new.self.items) in
    record {
      fits = omega (arith, h.fits, ap length told.last, length-append new.removals (r ∷ []), c.in-None.ensures.cases.1);
      list_room = omega (arith, h.list_room, c.pop.ensures.capacity);
      number_room = omega (arith, h.number_room, ap (λ z. z.room) told.same);
      logged = subst Q (sym extent) (subst (AreLogged e e.sizes) (sym (ap (λ ys. new.removals ++ ys) none ∙ append-nil new.removals)) front);
    }
