-- One value more has its links.
use Rattle.std.proofs.Common.{◌+◌, length, ap, ◌∙◌, refl}
use Rattle.std.proofs.lemmas.List.{length_push}
use Rattle.wfc_ac4.proofs.LinkLemmas.{starts_more, upto_more}
use Rattle.wfc_ac4.proofs.links.Links.new.Goals as goal

pub loop-value-preserved : goal.loop-value-preserved
loop-value-preserved c =
    let h = c.loop-value.invariant in
    let P = c.args.problem.now in
    let links = upto_more P c.loop-value.value c.loop-value.links.items c.push_value.new.links.items h.links (c.in_ok-push_value.ensures.more refl) in
    record {
      sized = ap length c.in_ok-push-2.ensures.items ∙ length_push c.loop-value.starts.items _ ∙ ap (λ n. n + 1) h.sized;
      starts = starts_more P c.loop-value.value _ c.loop-value.starts.items _ h.sized h.starts c.in_ok-push-2.ensures.items (c.len.ensures ∙ c.push_value.new.links.ok.0 ∙ ap length links);
      links = links;
    }
