use Rattle.wfc_blocks.specs.declared.grown.GrowFault.TheVariants as faults
use Rattle.wfc_blocks.specs.declared.grown.Grown.{Grown}
use Rattle.wfc_grow_command.proofs.GrowingLemmas.{can_be_put}
use Rattle.wfc_grow_command.proofs.GrowEndLemmas.{ends_grown, ends_refused}
use Rattle.wfc_grow_command.proofs.grow_command.grown_with.Goals as goal
use Rattle.wfc_grow_command.specs.GrowTask.{growing_view}
use Rattle.wfc_outside.proofs.CallerLemmas.{gives_value}

pub growing_end-requires-clause-alike : goal.growing_end-requires-clause-alike
growing_end-requires-clause-alike g c = (((goal.Chooser-dyn g (c.args.chooser.vtable, c.args.chooser.value)).told c.args.chooser.value).rule, c.requires.have)

pub put_grown-requires : goal.put_grown-requires
put_grown-requires g c =
    let rule = ((goal.Chooser-dyn g (c.args.chooser.vtable, c.args.chooser.value)).told c.args.chooser.value).rule in
    let grows = gives_value faults.NoMemory (λ (made : Grown). made) c.in-Ok.made _ (c.in-Ok.ensures.exact rule c.requires.have) in
    record { sample = c.requires.asked.sample; can = can_be_put c.args.request.now c.args.growing.now rule c.in-Ok.made c.requires.output c.requires.asked c.requires.growing grows }

pub returns-in-Ok : goal.returns-in-Ok
returns-in-Ok g c =
    let rule = ((goal.Chooser-dyn g (c.args.chooser.vtable, c.args.chooser.value)).told c.args.chooser.value).rule in
    let grows = gives_value faults.NoMemory (λ (made : Grown). made) c.in-Ok.made _ (c.in-Ok.ensures.exact rule c.requires.have) in
    record { ends = λ folder. ends_grown c.args.request.now (growing_view c.args.growing.now) rule c.in-Ok.made folder _ _ _ grows c.put_grown.ensures.puts }

pub returns-in-Err : goal.returns-in-Err
returns-in-Err g c =
    let rule = ((goal.Chooser-dyn g (c.args.chooser.vtable, c.args.chooser.value)).told c.args.chooser.value).rule in
    record { ends = λ folder. rw c.grow_refusal.ensures.value (ends_refused c.args.request.now (growing_view c.args.growing.now) rule c.in-Err.fault folder _ (c.in-Err.ensures.exact rule c.requires.have)) }
