use Rattle.std.proofs.Common.{ap, arith, length, subst, ◌<◌, ◌≤◌}
use Rattle.std.proofs.lemmas.List.Elements.{All-weaker}
use Rattle.std.specs.Prelude.{All}
use Rattle.wfc_blocks.specs.Grown.{grown_of}
use Rattle.wfc_blocks.specs.declared.grown.GrowFault.TheVariants as faults
use Rattle.wfc_blocks.specs.declared.grown.Grown.{Grown}
use Rattle.wfc_grow_command.proofs.grow_command.growing_end.Goals as goal
use Rattle.wfc_grow_command.specs.GrowTask.{area_asked}
use Rattle.wfc_outside.specs.Gives.{Gives}
use Rattle.wfc_picture.specs.declared.palette.TheConstants.{MAX_COLOURS}
use Rattle.wfc_words.specs.RequestView.{RequestView}

pub grow-requires-clause-side_least : goal.grow-requires-clause-side_least
grow-requires-clause-side_least g c = omega (arith, c.requires.growing.side, c.requires.asked.some_block, ap (λ (r : RequestView). r.block) c.request.view_is)

pub grow-requires-clause-side_limit : goal.grow-requires-clause-side_limit
grow-requires-clause-side_limit g c = omega (arith, c.requires.asked.block_limit, ap (λ (r : RequestView). r.block) c.request.view_is)

pub grow-requires-clause-small : goal.grow-requires-clause-small
grow-requires-clause-small g c =
    let many = length c.args.growing.now.taught.palette in
    let few : many ≤ MAX_COLOURS = c.len-few.ensures.limit in
    All-weaker (λ window. All (λ number. number < many) window) (λ window. All (λ number. number < MAX_COLOURS) window)
    (λ window inside. All-weaker (λ number. number < many) (λ number. number < MAX_COLOURS) (λ number low. omega (arith, low, few)) window inside) c.args.growing.now.taught.patterns.windows c.requires.growing.lesson.numbers

pub returns : goal.returns
returns g c =
    let growing = c.args.growing.now in
    record {
      exact = λ rule have. rw c.deref.ensures.value at
          (subst (λ (asked : RequestView). Gives faults.NoMemory (λ (made : Grown). made) c.grow.result (grown_of growing.taught.patterns growing.taught.palette (area_asked asked) c.deref.result.now rule asked.budget asked.seed))
          c.request.view_is (c.grow.ensures.exact rule have));
    }
