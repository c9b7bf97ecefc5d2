use Rattle.std.proofs.Common.{[], arith, false, length, nat_lt, sym, true, ◌&&◌, ◌++◌, ◌<◌, ◌∷◌, ◌≡◌}
use Rattle.wfc_plan.specs.Kinds.{same_rule}
use Rattle.wfc_reply.proofs.TakingLemmas.{one_left, one_taken}
use Rattle.wfc_reply.proofs.choosers.first_many.Goals.{else-is_wanted, then-is_wanted+in_ok-push}
use Rattle.wfc_reply.proofs.choosers.first_many.Goals as goal

pub loop-made-preserved : goal.loop-made-preserved
loop-made-preserved g c =
    let some : 0 < length c.loop-made.choosers.items = omega (arith, c.loop-made.invariant.count, c.loop-made-test.true, c.len-count.ensures) in
    elim c.if-is_wanted.branch [
      | then-is_wanted+in_ok-push w ↦
          let more : c.if-is_wanted.taken.items ≡ c.loop-made.taken.items ++ c.remove-chooser.result ∷ [] = cc (w.taken-is, w.in_ok-push.ensures.items) in
          let wanted : (nat_lt (length c.loop-made.taken.items) c.args.many && same_rule c.args.kind ((goal.Chooser-dyn g (c.remove-chooser.result.vtable, c.remove-chooser.result.value)).told c.remove-chooser.result.value).rule.kind) ≡ true = cc (w.if-is_wanted.ensures.value, c.len.ensures) in
          one_taken (λ chooser. ((goal.Chooser-dyn g (chooser.vtable, chooser.value)).told chooser.value).rule) c.args.kind c.args.many c.args.choosers.items c.loop-made.choosers.items c.remove-chooser.new.self.items c.loop-made.taken.items c.if-is_wanted.taken.items c.loop-made.made c.remove-chooser.result
          c.loop-made.invariant some c.remove-chooser.ensures.value c.remove-chooser.ensures.by_index.2 wanted more
      | else-is_wanted w ↦
          let kept : c.loop-made.taken.items ≡ c.if-is_wanted.taken.items = cc (w.taken-is) in
          let other : (nat_lt (length c.loop-made.taken.items) c.args.many && same_rule c.args.kind ((goal.Chooser-dyn g (c.remove-chooser.result.vtable, c.remove-chooser.result.value)).told c.remove-chooser.result.value).rule.kind) ≡ false = cc (w.if-is_wanted.ensures.value, c.len.ensures) in
          rw (sym kept) (one_left (λ chooser. ((goal.Chooser-dyn g (chooser.vtable, chooser.value)).told chooser.value).rule) c.args.kind c.args.many c.args.choosers.items c.loop-made.choosers.items c.remove-chooser.new.self.items c.loop-made.taken.items c.loop-made.made c.remove-chooser.result
          c.loop-made.invariant some c.remove-chooser.ensures.value c.remove-chooser.ensures.by_index.2 other)
    ]
