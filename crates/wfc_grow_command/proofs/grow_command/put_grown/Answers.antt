use Rattle.std.proofs.Common.{Ok, Result, subst, sym}
use Rattle.wfc_blocks.specs.declared.grown.Grown.{Grown}
use Rattle.wfc_blocks.specs.declared.grown.Grown.TheVariants as grown
use Rattle.wfc_grow_command.proofs.GrowEndLemmas.{map_spent}
use Rattle.wfc_grow_command.proofs.grow_command.put_grown.Goals as goal
use Rattle.wfc_grow_command.specs.GrowTask.{growing_view}
use Rattle.wfc_grow_command.specs.Growing.{CanBePut, PutsGrown}
use Rattle.wfc_reply.specs.declared.reply.Stop.{Stop}
use Rattle.wfc_reply.specs.declared.reply.CommandVerdict.{CommandVerdict}
use Rattle.wfc_reply.specs.declared.reply.CommandVerdict.TheVariants as verdict
use Rattle.wfc_words.specs.RequestView.{RequestView}

pub put_map-requires : goal.put_map-requires
put_map-requires g c =
    let rule = ((goal.Chooser-dyn g (c.args.chooser.vtable, c.args.chooser.value)).told c.args.chooser.value).rule in
    record { written = subst (λ (made : Grown). CanBePut rule c.args.request.now (growing_view c.args.growing.now) made) c.in-Map.is c.requires.can }

pub put_stuck-requires : goal.put_stuck-requires
put_stuck-requires g c =
    let rule = ((goal.Chooser-dyn g (c.args.chooser.vtable, c.args.chooser.value)).told c.args.chooser.value).rule in
    record { sample = c.requires.sample; run = subst (λ (made : Grown). CanBePut rule c.args.request.now (growing_view c.args.growing.now) made) c.in-Stuck.is c.requires.can }

pub returns-in-Map : goal.returns-in-Map
returns-in-Map g c =
    let rule = ((goal.Chooser-dyn g (c.args.chooser.vtable, c.args.chooser.value)).told c.args.chooser.value).rule in
    record { puts = subst (λ (made : Grown). PutsGrown rule c.args.request.now (growing_view c.args.growing.now) made (g.O.Sink.seen c.args.out.now) (g.O.Sink.seen c.put_map.new.out) c.put_map.result) (sym c.in-Map.is) (c.put_map.ensures.puts rule) }

pub returns-in-Stuck : goal.returns-in-Stuck
returns-in-Stuck g c =
    let rule = ((goal.Chooser-dyn g (c.args.chooser.vtable, c.args.chooser.value)).told c.args.chooser.value).rule in
    record { puts = subst (λ (made : Grown). PutsGrown rule c.args.request.now (growing_view c.args.growing.now) made (g.O.Sink.seen c.args.out.now) (g.O.Sink.seen c.put_stuck.new.out) c.put_stuck.result) (sym c.in-Stuck.is) c.put_stuck.ensures.puts }

pub returns-in-Spent : goal.returns-in-Spent
returns-in-Spent g c =
    let rule = ((goal.Chooser-dyn g (c.args.chooser.vtable, c.args.chooser.value)).told c.args.chooser.value).rule in
    let asked = c.args.request.now in
    let task = growing_view c.args.growing.now in
    let sink = g.O.Sink.seen c.args.out.now in
    record {
      puts = subst (λ (made : Grown). PutsGrown rule asked task made sink sink (Ok (verdict.Spent c.request.inside.budget))) (sym c.in-Spent.is)
          (subst (λ (r : RequestView). let end : Result CommandVerdict Stop = Ok (verdict.Spent r.budget) in PutsGrown rule asked task grown.Spent sink sink end) (sym c.request.view_is) (map_spent rule asked task sink));
    }
