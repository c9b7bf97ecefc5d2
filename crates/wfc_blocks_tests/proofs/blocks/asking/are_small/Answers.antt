use Rattle.std.proofs.Common.{◌≡◌, ℕ, List, ◌<◌, get_or, sym, ◌∙◌, ap, subst, refl, arith, inl, inr}
use Rattle.std.specs.Prelude.{All}
use Rattle.std.proofs.lemmas.Bool.{cases_lt}
use Rattle.std.proofs.lemmas.Option.{get_or_from_slice_get}
use Rattle.wfc_picture.specs.declared.palette.TheConstants.{MAX_COLOURS}
use Rattle.wfc_blocks_tests.proofs.blocks.asking.are_small.Goals as goal

pub loop-v-preserved : goal.loop-v-preserved
loop-v-preserved c = λ k d inside. elim (cases_lt k c.loop-v.v) [
  | inl below ↦ c.loop-v.invariant k d below
  | inr past ↦
      let same : k ≡ c.loop-v.v = omega arith in
      let is : get_or c.args.patterns.now.windows k d ≡ c.window.result.now =
      ap (λ k. get_or c.args.patterns.now.windows k d) same ∙ get_or_from_slice_get c.args.patterns.now.windows c.loop-v.v c.window.result.now d c.window.ensures.value in
      subst (λ (w : List ℕ). All (λ number. number < MAX_COLOURS) w) (sym is) (c.if-not-all_small.ensures.small refl)
]

pub returns : goal.returns
returns c = record { small = λ _ k d inside. c.loop-v.invariant k d (omega (arith, c.loop-v-test.false, c.count-v-end.ensures.value)) }
