use Rattle.std.proofs.Common.{arith}
use Rattle.wfc_reply.proofs.TakingLemmas.{first_taken, many_taken}
use Rattle.wfc_reply.proofs.choosers.first_chooser.Goals as goal

pub remove-requires : goal.remove-requires
remove-requires g c =
    let many = many_taken (λ chooser. ((goal.Chooser-dyn g (chooser.vtable, chooser.value)).told chooser.value).rule) 1 c.args.kind c.args.choosers.items c.in_ok-taken.taken.items c.in_ok-taken.ensures.first c.requires.there in
    omega (arith, many)

pub returns : goal.returns
returns g c =
    let many = many_taken (λ chooser. ((goal.Chooser-dyn g (chooser.vtable, chooser.value)).told chooser.value).rule) 1 c.args.kind c.args.choosers.items c.in_ok-taken.taken.items c.in_ok-taken.ensures.first c.requires.there in
    record {
      first = first_taken (λ chooser. ((goal.Chooser-dyn g (chooser.vtable, chooser.value)).told chooser.value).rule) c.args.kind c.args.choosers.items c.in_ok-taken.taken.items c.remove.result c.in_ok-taken.ensures.first (omega (arith, many)) c.remove.ensures.value;
    }
