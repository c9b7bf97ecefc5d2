use Rattle.std.proofs.Common.{◌∷◌, ◌++◌, [], sym, subst, ◌∙◌, ap, arith}
use Rattle.std.proofs.lemmas.List.{append_assoc, length-append}
use Rattle.wfc_log.specs.Log.{AreLogged}
use Rattle.wfc_log.proofs.SizeLemmas.{logged-push}
use Rattle.wfc_log.proofs.trail.Trail.push.Goals as goal

pub invariant_of-self : goal.invariant_of-self
invariant_of-self c =
    let a = c.self.inside in
    let h = c.self.invariant in
    let room = rw (← c.self.view_is) at c.requires.room in
    let logged = rw (← c.self.view_is) at c.requires.logged in
    let xs = a.older.removals in
    let ys = a.list.items in
    let e = a.older.extent in
    let more = append_assoc xs ys (c.args.removal ∷ []) ∙ ap (λ zs. xs ++ zs) (sym c.push_reserved.ensures.items) in
    record {
      fits = omega (arith, room, c.push_reserved.ensures.len, length-append xs ys, a.list.ok.0);
      list_room = omega (arith, h.list_room, c.push_reserved.ensures.capacity);
      number_room = h.number_room;
      logged = subst (AreLogged e e.sizes) more (logged-push e e.sizes (xs ++ ys) c.args.removal h.logged logged);
    }
